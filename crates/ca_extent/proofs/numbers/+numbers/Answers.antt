use Rattle.std.proofs.Common.{◌≡◌, ◌++◌, refl, sym, ap, ◌∙◌, subst, arith}
use Rattle.std.specs.Prelude.{IfOk}
use Rattle.ca_program.specs.Plain.{block}
use Rattle.ca_program.specs.View.{expression_view, expressions_view, form_view, statement_view, statements_view}
use Rattle.ca_program.proofs.Rows.{block_is}
use Rattle.ca_extent.specs.clauses.Numbers.{call_number, numbers_in, numbers_in_all, numbers_of, numbers_of_all}
use Rattle.ca_extent.proofs.Walks.{one_more, none_left, both_found, found_at}
use Rattle.ca_extent.proofs.numbers.+numbers.Goals as goal

pub add_numbers-returns-in-Block : goal.add_numbers-returns-in-Block
add_numbers-returns-in-Block t c =
    let is : statement_view c.args.s.now ≡ block c.args.s.now.line (statements_view c.in-Block.stmts.items) = ap (λ k. form_view k c.args.s.now.line) c.in-Block.is ∙ block_is c.args.s.now.line c.in-Block.stmts in
    subst (λ x. IfOk c.add_all_numbers.result (λ _. c.add_all_numbers.new.out.items ≡ c.args.out.now.items ++ numbers_of c.args.callees x)) (sym is)
    (rw c.deref.ensures.value at c.add_all_numbers.ensures)

pub add_numbers-returns-in-PutItem : goal.add_numbers-returns-in-PutItem
add_numbers-returns-in-PutItem t c =
    found_at (numbers_of c.args.callees) _ _ _ (statement_view c.args.s.now) _ (ap (λ k. form_view k c.args.s.now.line) c.in-PutItem.is)
    (both_found _ _ _ _ _ _ (numbers_in c.args.callees (expression_view c.in-PutItem.index)) (numbers_in c.args.callees (expression_view c.in-PutItem.e)) c.add_called.ensures c.add_called-in-PutItem.ensures c.and.ensures)

pub add_numbers-returns-in-Invoke : goal.add_numbers-returns-in-Invoke
add_numbers-returns-in-Invoke t c =
    let x = numbers_in c.args.callees (expression_view c.in-Invoke.receiver) in
    let y = call_number c.args.callees c.in-Invoke.op in
    let z = numbers_in_all c.args.callees (expressions_view c.in-Invoke.arguments.items) in
    found_at (numbers_of c.args.callees) _ _ _ (statement_view c.args.s.now) _ (ap (λ k. form_view k c.args.s.now.line) c.in-Invoke.is)
    (both_found _ _ _ _ _ _ x (y ++ z) c.add_called-receiver.ensures (both_found _ _ _ _ _ _ y z c.add_call-call.ensures (rw c.deref-in-Invoke.ensures.value at c.add_all_called.ensures) c.and-in-Invoke.ensures) c.and-in-Invoke-2.ensures)

pub add_numbers-returns-in-If : goal.add_numbers-returns-in-If
add_numbers-returns-in-If t c =
    let x = numbers_in c.args.callees (expression_view c.in-If.cond) in
    let y = numbers_of c.args.callees (statement_view c.in-If.yes.value) in
    let z = numbers_of c.args.callees (statement_view c.in-If.no.value) in
    found_at (numbers_of c.args.callees) _ _ _ (statement_view c.args.s.now) _ (ap (λ k. form_view k c.args.s.now.line) c.in-If.is)
    (both_found _ _ _ _ _ _ x (y ++ z) c.add_called-cond.ensures (both_found _ _ _ _ _ _ y z (rw c.deref-in-If.ensures at c.add_numbers-yes.ensures) (rw c.deref-in-If-2.ensures at c.add_numbers.ensures) c.and-in-If.ensures) c.and-in-If-2.ensures)

pub add_numbers-returns-in-For : goal.add_numbers-returns-in-For
add_numbers-returns-in-For t c =
    let x = numbers_of c.args.callees (statement_view c.in-For.first.value) in
    let y = numbers_in c.args.callees (expression_view c.in-For.cond) in
    let z = numbers_of c.args.callees (statement_view c.in-For.next.value) in
    let w = numbers_of c.args.callees (statement_view c.in-For.body.value) in
    found_at (numbers_of c.args.callees) _ _ _ (statement_view c.args.s.now) _ (ap (λ k. form_view k c.args.s.now.line) c.in-For.is)
    (both_found _ _ _ _ _ _ x (y ++ (z ++ w)) (rw c.deref-in-For.ensures at c.add_numbers-first.ensures)
    (both_found _ _ _ _ _ _ y (z ++ w) c.add_called-cond-in-For.ensures
    (both_found _ _ _ _ _ _ z w (rw c.deref-in-For-2.ensures at c.add_numbers-next.ensures) (rw c.deref-in-For-3.ensures at c.add_numbers-body.ensures) c.and-in-For.ensures) c.and-in-For-2.ensures) c.and-in-For-3.ensures)

pub add_all_numbers-statements-preserved : goal.add_all_numbers-statements-preserved
add_all_numbers-statements-preserved t c = one_more (λ s. numbers_of c.args.callees (statement_view s)) (λ ss. numbers_of_all c.args.callees (statements_view ss)) (λ s ss. refl) c.args.stmts.now c.statements.s-index c.s-item.result (omega arith) c.s-item.is _ _ _ c.statements.invariant c.in_ok-add_numbers.ensures

pub add_all_numbers-returns : goal.add_all_numbers-returns
add_all_numbers-returns t c = none_left (λ ss. numbers_of_all c.args.callees (statements_view ss)) refl c.args.stmts.now c.statements.s-index (omega arith) _ _ c.statements.invariant
