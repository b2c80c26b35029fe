use Rattle.std.proofs.Common.{◌++◌, map, refl, sym, ap, ◌∙◌, arith}
use Rattle.std.specs.Prelude.{flat_map}
use Rattle.ca_program.specs.View.{method_view, statements_view}
use Rattle.ca_parallel.specs.Bodies.{fors_in_all}
use Rattle.ca_parallel.specs.Marks.{loops_of_method}
use Rattle.ca_extent.proofs.Walks.{one_more, none_left}
use Rattle.ca_plan.specs.Plans.{call_loops_of}
use Rattle.ca_plan.proofs.LoopWalks.{call_loops_of_both, loops_of_methods, of_method}
use Rattle.ca_plan.proofs.calls.call_loops.Goals as goal

pub loop-m-init : goal.loop-m-init
loop-m-init c = rw (c.new-loops.ensures.items, c.deref-m-items.ensures.value) refl

pub loop-m-preserved : goal.loop-m-preserved
loop-m-preserved c =
    one_more (λ m. call_loops_of (fors_in_all (statements_view m.body.stmts.items))) loops_of_methods of_method c.deref-m-items.result.now c.loop-m.m-index c.m-item.result (omega arith) c.m-item.is _ _ _ c.loop-m.invariant
    (rw c.deref.ensures.value at c.in_ok-add_all_loops.ensures)

pub returns : goal.returns
returns c =
    let main = fors_in_all (statements_view c.args.program.now.main.stmts.items) in
    let ops = none_left loops_of_methods refl c.deref-m-items.result.now c.loop-m.m-index (omega arith) _ _ c.loop-m.invariant in
    (rw c.deref-2.ensures.value at c.in_ok-add_all_loops-2.ensures)
    ∙ (ap (λ z. z ++ call_loops_of main) ops ∙ sym (call_loops_of_both (flat_map loops_of_method (map method_view c.args.program.now.ops.items)) main))
