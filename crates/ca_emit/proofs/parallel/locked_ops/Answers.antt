use Rattle.std.proofs.Common.{◌≡◌, ◌≤◌, ◌++◌, [], Some, Global, length, drop, refl, sym, ap, ◌∙◌, arith, append-nil}
use Rattle.std.specs.Prelude.{slice_get}
use Rattle.std.proofs.lemmas.List.{length-map, drop_all}
use Rattle.std.specs.declared.rc.Rc.{Rc}
use Rattle.ca_program.specs.View.{program_view}
use Rattle.ca_parallel.specs.Lists.{op_in}
use Rattle.ca_extent.proofs.Walks.{one_more, none_left}
use Rattle.ca_plan.specs.Plans.{Judged, op_at}
use Rattle.ca_plan.specs.Texts.{loop_in}
use Rattle.ca_plan.specs.Told.{shared}
use Rattle.ca_plan.proofs.Chosen.{shared_at}
use Rattle.ca_emit.specs.Annotations.{locked_in, ops_if, reached_by_ops, reached_by_loops}
use Rattle.ca_emit.proofs.Picking.{one_at}
use Rattle.ca_emit.proofs.parallel.locked_ops.Goals as goal

pub loop-n-init : goal.loop-n-init
loop-n-init c = rw (c.new-locked.ensures.items, c.ops-ops.ensures) refl

pub loop-n-preserved : goal.loop-n-preserved
loop-n-preserved c =
    let p = program_view c.args.program.now in
    let marked = c.args.plan.now.marks.ops in
    let js = shared c.ops-ops.result.now in
    let j = c.deref.result.now in
    let at : slice_get js c.loop-n.n ≡ Some j = shared_at c.ops-ops.result.now c.loop-n.n c.index-ops-n.result j (omega arith) c.index-ops-n.is c.deref.ensures in
    one_at (reached_by_ops (locked_in p) marked) (λ n (x : Judged). ops_if (op_in marked (op_at n)) (locked_in p x.extent)) (λ n x xs. refl) js c.loop-n.n j at _ _ _ c.loop-n.invariant
    (rw (c.is_op_in-marked.ensures, c.marked_ops.ensures, c.extent.ensures) at c.in_ok-add_locked.ensures)

pub loop-one-init : goal.loop-one-init
loop-one-init c =
    let p = program_view c.args.program.now in
    let marked = c.args.plan.now.marks.ops in
    let js = shared c.ops-ops.result.now in
    let past : length js ≤ c.loop-n.n = omega (arith, length-map c.ops-ops.result.now (λ (r : Rc Judged Global). r.value)) in
    let none : reached_by_ops (locked_in p) marked c.loop-n.n (drop c.loop-n.n js) ≡ [] = ap (reached_by_ops (locked_in p) marked c.loop-n.n) (drop_all c.loop-n.n js past) in
    let whole : c.loop-n.locked.items ≡ reached_by_ops (locked_in p) marked 0 c.args.plan.now.ops = sym (append-nil c.loop-n.locked.items) ∙ (ap (λ z. c.loop-n.locked.items ++ z) (sym none) ∙ c.loop-n.invariant) in
    rw c.loops-loops.ensures (ap (λ z. z ++ reached_by_loops (locked_in (program_view c.args.program.now)) c.args.plan.now.marks.loops c.args.plan.now.loops) whole)

pub loop-one-preserved : goal.loop-one-preserved
loop-one-preserved c =
    let p = program_view c.args.program.now in
    let marked = c.args.plan.now.marks.loops in
    one_more (λ l. ops_if (loop_in marked l.site) (locked_in p l.judged.extent)) (reached_by_loops (locked_in p) marked) (λ l ls. refl) c.loops-loops.result.now c.loop-one.one-index c.one-item.result (omega arith) c.one-item.is _ _ _ c.loop-one.invariant
    (rw (c.is_loop_in-marked.ensures, c.marked_loops.ensures, c.site.ensures, c.extent-in-loop-one.ensures, c.judged.ensures) at c.in_ok-add_locked-2.ensures)

pub returns : goal.returns
returns c = none_left (reached_by_loops (locked_in (program_view c.args.program.now)) c.args.plan.now.marks.loops) refl c.loops-loops.result.now c.loop-one.one-index (omega arith) _ _ c.loop-one.invariant
