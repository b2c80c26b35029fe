use Rattle.std.proofs.Common.{◌++◌, refl, ap, ◌∙◌, arith}
use Rattle.ca_program.specs.View.{form_view, statement_view, statements_view}
use Rattle.ca_program.proofs.Rows.{block_is}
use Rattle.ca_parallel.specs.Bodies.{calls_of, calls_of_all}
use Rattle.ca_extent.proofs.Walks.{one_more, none_left, both_found, found_at}
use Rattle.ca_plan.proofs.calls.+calls.Goals as goal

pub add_calls-returns-in-Block : goal.add_calls-returns-in-Block
add_calls-returns-in-Block t c =
    found_at calls_of _ _ _ (statement_view c.args.s.now) _ (ap (λ k. form_view k c.args.s.now.line) c.in-Block.is ∙ block_is c.args.s.now.line c.in-Block.stmts)
    (rw c.deref.ensures.value at c.add_all_calls.ensures)

pub add_calls-returns-in-If : goal.add_calls-returns-in-If
add_calls-returns-in-If t c =
    found_at calls_of _ _ _ (statement_view c.args.s.now) _ (ap (λ k. form_view k c.args.s.now.line) c.in-If.is)
    (both_found _ _ _ _ _ _ (calls_of (statement_view c.in-If.yes.value)) (calls_of (statement_view c.in-If.no.value))
    (rw c.deref-in-If.ensures at c.add_calls.ensures) (rw c.deref-in-If-2.ensures at c.add_calls-in-If.ensures) c.and.ensures)

pub add_calls-returns-in-For : goal.add_calls-returns-in-For
add_calls-returns-in-For t c =
    let x = calls_of (statement_view c.in-For.first.value) in
    let y = calls_of (statement_view c.in-For.next.value) in
    let z = calls_of (statement_view c.in-For.body.value) in
    found_at calls_of _ _ _ (statement_view c.args.s.now) _ (ap (λ k. form_view k c.args.s.now.line) c.in-For.is)
    (both_found _ _ _ _ _ _ x (y ++ z) (rw c.deref-in-For.ensures at c.add_calls-first.ensures)
    (both_found _ _ _ _ _ _ y z (rw c.deref-in-For-2.ensures at c.add_calls-next.ensures) (rw c.deref-in-For-3.ensures at c.add_calls-in-For.ensures) c.and-in-For.ensures) c.and-in-For-2.ensures)

pub add_all_calls-statements-preserved : goal.add_all_calls-statements-preserved
add_all_calls-statements-preserved t c = one_more (λ s. calls_of (statement_view s)) (λ ss. calls_of_all (statements_view ss)) (λ s ss. refl) c.args.stmts.now c.statements.s-index c.s-item.result (omega arith) c.s-item.is _ _ _ c.statements.invariant c.in_ok-add_calls.ensures

pub add_all_calls-returns : goal.add_all_calls-returns
add_all_calls-returns t c = none_left (λ ss. calls_of_all (statements_view ss)) refl c.args.stmts.now c.statements.s-index (omega arith) _ _ c.statements.invariant
