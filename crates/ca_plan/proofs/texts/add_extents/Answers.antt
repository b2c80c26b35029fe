use Rattle.std.proofs.Common.{◌+◌, ◌≡◌, ◌≤◌, Some, Global, length, drop, arith}
use Rattle.std.specs.Prelude.{slice_get}
use Rattle.std.proofs.lemmas.List.{length-map}
use Rattle.std.specs.declared.rc.Rc.{Rc}
use Rattle.ca_program.specs.View.{program_view}
use Rattle.ca_plan.specs.Plans.{Judged}
use Rattle.ca_plan.specs.Texts.{extents_text, extent_text}
use Rattle.ca_plan.specs.Told.{shared}
use Rattle.ca_plan.proofs.Chosen.{shared_at}
use Rattle.ca_plan.proofs.Written.{begun, one_done, failed, all_done, one_extent, no_extents}
use Rattle.ca_plan.proofs.texts.add_extents.Goals as goal

pub loop-op-init : goal.loop-op-init
loop-op-init g c = record { texts = begun _ c.args.line.now (extents_text (program_view c.args.program.now) 0 (shared c.args.ops.now)); later = omega arith }

pub returns-in-Err-clause-bytes : goal.returns-in-Err-clause-bytes
returns-in-Err-clause-bytes g c =
    let js = shared c.args.ops.now in
    let i = c.loop-op.op in
    let j = c.deref.result.now in
    let at : slice_get js i ≡ Some j = shared_at c.args.ops.now i c.index-ops-op.result j (omega arith) c.index-ops-op.is c.deref.ensures in
    failed _ (extent_text (program_view c.args.program.now) i j) (extents_text (program_view c.args.program.now) (i + 1) (drop (i + 1) js)) (one_extent (program_view c.args.program.now) js i j at) c.loop-op.invariant.texts c.in-Err.ensures.bytes

pub loop-op-preserved : goal.loop-op-preserved
loop-op-preserved g c =
    let js = shared c.args.ops.now in
    let i = c.loop-op.op in
    let j = c.deref.result.now in
    let at : slice_get js i ≡ Some j = shared_at c.args.ops.now i c.index-ops-op.result j (omega arith) c.index-ops-op.is c.deref.ensures in
    record {
      texts = one_done (extent_text (program_view c.args.program.now) i j) (extents_text (program_view c.args.program.now) (i + 1) (drop (i + 1) js)) (one_extent (program_view c.args.program.now) js i j at) c.loop-op.invariant.texts c.in_default.ensures.bytes.whole;
      later = omega (arith, c.loop-op.invariant.later, c.in_default.ensures.cause.later);
    }

pub returns-clause-bytes : goal.returns-clause-bytes
returns-clause-bytes g c =
    let js = shared c.args.ops.now in
    let past : length js ≤ c.loop-op.op = omega (arith, length-map c.args.ops.now (λ (r : Rc Judged Global). r.value)) in
    all_done _ (no_extents (program_view c.args.program.now) js c.loop-op.op past) c.loop-op.invariant.texts
