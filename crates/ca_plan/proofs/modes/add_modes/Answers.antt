use Rattle.std.proofs.Common.{◌+◌, ◌≤◌, Global, length, drop, arith}
use Rattle.std.proofs.lemmas.List.{length-map}
use Rattle.std.specs.declared.rc.Rc.{Rc}
use Rattle.ca_program.specs.View.{program_view}
use Rattle.ca_plan.specs.Plans.{Judged}
use Rattle.ca_plan.specs.Texts.{modes_text, op_mode_text}
use Rattle.ca_plan.specs.Told.{shared}
use Rattle.ca_plan.proofs.Chosen.{stands_at}
use Rattle.ca_plan.proofs.Written.{begun, one_done, failed, all_done, one_mode, no_modes}
use Rattle.ca_plan.proofs.modes.add_modes.Goals as goal

pub loop-op-init : goal.loop-op-init
loop-op-init g c = record { texts = begun _ c.args.line.now (modes_text (program_view c.args.program.now) c.args.marked.now 0 (shared c.args.ops.now)); later = omega arith }

pub returns-in-Err-clause-bytes : goal.returns-in-Err-clause-bytes
returns-in-Err-clause-bytes g c =
    let js = shared c.args.ops.now in
    let i = c.loop-op.op in
    let (j, at) = stands_at c.args.ops.now i (omega arith) in
    failed _ (op_mode_text (program_view c.args.program.now) c.args.marked.now i) (modes_text (program_view c.args.program.now) c.args.marked.now (i + 1) (drop (i + 1) js)) (one_mode (program_view c.args.program.now) c.args.marked.now js i j at) c.loop-op.invariant.texts c.in-Err.ensures.bytes

pub loop-op-preserved : goal.loop-op-preserved
loop-op-preserved g c =
    let js = shared c.args.ops.now in
    let i = c.loop-op.op in
    let (j, at) = stands_at c.args.ops.now i (omega arith) in
    record {
      texts = one_done (op_mode_text (program_view c.args.program.now) c.args.marked.now i) (modes_text (program_view c.args.program.now) c.args.marked.now (i + 1) (drop (i + 1) js)) (one_mode (program_view c.args.program.now) c.args.marked.now js i j at) c.loop-op.invariant.texts c.in_default.ensures.bytes.whole;
      later = omega (arith, c.loop-op.invariant.later, c.in_default.ensures.cause.later);
    }

pub returns-clause-bytes : goal.returns-clause-bytes
returns-clause-bytes g c =
    let js = shared c.args.ops.now in
    let past : length js ≤ c.loop-op.op = omega (arith, length-map c.args.ops.now (λ (r : Rc Judged Global). r.value)) in
    all_done _ (no_modes (program_view c.args.program.now) c.args.marked.now js c.loop-op.op past) c.loop-op.invariant.texts
