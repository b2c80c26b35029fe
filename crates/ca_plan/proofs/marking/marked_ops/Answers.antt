use Rattle.std.proofs.Common.{◌≡◌, ◌≤◌, List, Some, Global, length, sym, subst, arith}
use Rattle.std.specs.Prelude.{slice_get}
use Rattle.std.proofs.lemmas.List.{length-map}
use Rattle.std.specs.declared.rc.Rc.{Rc}
use Rattle.ca_program.specs.declared.program.OpId.{OpId}
use Rattle.ca_program.specs.View.{program_view}
use Rattle.ca_plan.specs.Plans.{Judged}
use Rattle.ca_plan.specs.Told.{shared}
use Rattle.ca_plan.proofs.Chosen.{MarkedTo, none_marked, next_op, all_marked, shared_at}
use Rattle.ca_plan.proofs.marking.marked_ops.Goals as goal

pub loop-n-init : goal.loop-n-init
loop-n-init c = subst (λ (ms : List OpId). MarkedTo (program_view c.args.program.now) (shared c.args.ops.now) 0 ms) (sym c.new-marked.ensures.items) (none_marked (program_view c.args.program.now) (shared c.args.ops.now))

pub loop-n-preserved : goal.loop-n-preserved
loop-n-preserved c =
    let at : slice_get (shared c.args.ops.now) c.loop-n.n ≡ Some c.deref.result.now = shared_at c.args.ops.now c.loop-n.n c.index-ops-n.result c.deref.result.now (omega (arith)) c.index-ops-n.is c.deref.ensures in
    next_op (program_view c.args.program.now) (shared c.args.ops.now) c.loop-n.n _ _ c.deref.result.now at c.in_ok-note_op.ensures c.loop-n.invariant

pub returns-clause-marked : goal.returns-clause-marked
returns-clause-marked c =
    let past : length (shared c.args.ops.now) ≤ c.loop-n.n = omega (arith, length-map c.args.ops.now (λ (r : Rc Judged Global). r.value)) in
    all_marked (program_view c.args.program.now) (shared c.args.ops.now) c.loop-n.n _ past c.loop-n.invariant

pub returns-clause-rise : goal.returns-clause-rise
returns-clause-rise c = c.loop-n.invariant.rise
