use Rattle.std.proofs.Common.{◌++◌, [], ◌∷◌, refl, ap, ◌∙◌, arith}
use Rattle.ca_program.specs.View.{form_view, statement_view, statements_view}
use Rattle.ca_program.proofs.Rows.{block_is}
use Rattle.ca_parallel.specs.Bodies.{fors_in, fors_in_all}
use Rattle.ca_extent.proofs.Walks.{one_more, none_left, found_at}
use Rattle.ca_plan.specs.Plans.{call_loops_of}
use Rattle.ca_plan.proofs.LoopWalks.{of_more, of_two, of_for}
use Rattle.ca_plan.proofs.calls.+loops.Goals as goal

pub add_loops-returns-in-Block : goal.add_loops-returns-in-Block
add_loops-returns-in-Block t c =
    found_at (λ x. call_loops_of (fors_in x)) _ _ _ (statement_view c.args.s.now) _ (ap (λ k. form_view k c.args.s.now.line) c.in-Block.is ∙ block_is c.args.s.now.line c.in-Block.stmts)
    (rw c.deref.ensures.value at c.add_all_loops.ensures)

pub add_loops-returns-in-If : goal.add_loops-returns-in-If
add_loops-returns-in-If t c =
    found_at (λ x. call_loops_of (fors_in x)) _ _ _ (statement_view c.args.s.now) _ (ap (λ k. form_view k c.args.s.now.line) c.in-If.is)
    (of_two (fors_in (statement_view c.in-If.yes.value)) (fors_in (statement_view c.in-If.no.value)) _ _ _ _ _ _
    (rw c.deref-in-If.ensures at c.add_loops.ensures) (rw c.deref-in-If-2.ensures at c.add_loops-in-If.ensures) c.and.ensures)

pub add_loops-returns-in-For : goal.add_loops-returns-in-For
add_loops-returns-in-For t c =
    let x = fors_in (statement_view c.in-For.first.value) in
    let y = fors_in (statement_view c.in-For.next.value) in
    let z = fors_in (statement_view c.in-For.body.value) in
    of_for (statement_view c.args.s.now) _ _ _ (statement_view c.in-For.first.value) _ (statement_view c.in-For.next.value) (statement_view c.in-For.body.value) (ap (λ k. form_view k c.args.s.now.line) c.in-For.is) _ _ _
    (of_two (statement_view c.args.s.now ∷ []) (x ++ (y ++ z)) _ _ _ _ _ _ c.add_loop-whole.ensures
    (of_two x (y ++ z) _ _ _ _ _ _ (rw c.deref-in-For.ensures at c.add_loops-first.ensures)
    (of_two y z _ _ _ _ _ _ (rw c.deref-in-For-2.ensures at c.add_loops-next.ensures) (rw c.deref-in-For-3.ensures at c.add_loops-in-For.ensures) c.and-in-For.ensures) c.and-in-For-2.ensures) c.and-in-For-3.ensures)

pub add_all_loops-statements-preserved : goal.add_all_loops-statements-preserved
add_all_loops-statements-preserved t c = one_more (λ s. call_loops_of (fors_in (statement_view s))) (λ ss. call_loops_of (fors_in_all (statements_view ss))) (λ s ss. of_more (statement_view s) (statements_view ss)) c.args.stmts.now c.statements.s-index c.s-item.result (omega arith) c.s-item.is _ _ _ c.statements.invariant c.in_ok-add_loops.ensures

pub add_all_loops-returns : goal.add_all_loops-returns
add_all_loops-returns t c = none_left (λ ss. call_loops_of (fors_in_all (statements_view ss))) refl c.args.stmts.now c.statements.s-index (omega arith) _ _ c.statements.invariant
