use Rattle.std.proofs.Common.{◌≡◌, ◌++◌, refl, sym, ap, ◌∙◌, subst, arith}
use Rattle.std.specs.Prelude.{IfOk}
use Rattle.ca_program.specs.Plain.{block}
use Rattle.ca_program.specs.View.{form_view, statement_view, statements_view}
use Rattle.ca_program.proofs.Rows.{block_is}
use Rattle.ca_extent.specs.clauses.Targets.{written_by, written_by_all}
use Rattle.ca_extent.proofs.Walks.{one_more, none_left, both_found, found_at}
use Rattle.ca_extent.proofs.targets.+targets.Goals as goal

pub add_targets-returns-in-Block : goal.add_targets-returns-in-Block
add_targets-returns-in-Block t c =
    let is : statement_view c.args.s.now ≡ block c.args.s.now.line (statements_view c.in-Block.stmts.items) = ap (λ k. form_view k c.args.s.now.line) c.in-Block.is ∙ block_is c.args.s.now.line c.in-Block.stmts in
    subst (λ x. IfOk c.add_all_targets.result (λ _. c.add_all_targets.new.out.items ≡ c.args.out.now.items ++ written_by x)) (sym is)
    (rw c.deref.ensures.value at c.add_all_targets.ensures)

pub add_targets-returns-in-If : goal.add_targets-returns-in-If
add_targets-returns-in-If t c =
    found_at written_by _ _ _ (statement_view c.args.s.now) _ (ap (λ k. form_view k c.args.s.now.line) c.in-If.is)
    (both_found _ _ _ _ _ _ (written_by (statement_view c.in-If.yes.value)) (written_by (statement_view c.in-If.no.value))
    (rw c.deref-in-If.ensures at c.add_targets.ensures) (rw c.deref-in-If-2.ensures at c.add_targets-in-If.ensures) c.and.ensures)

pub add_targets-returns-in-For : goal.add_targets-returns-in-For
add_targets-returns-in-For t c =
    let x = written_by (statement_view c.in-For.first.value) in
    let y = written_by (statement_view c.in-For.next.value) in
    let z = written_by (statement_view c.in-For.body.value) in
    found_at written_by _ _ _ (statement_view c.args.s.now) _ (ap (λ k. form_view k c.args.s.now.line) c.in-For.is)
    (both_found _ _ _ _ _ _ x (y ++ z) (rw c.deref-in-For.ensures at c.add_targets-first.ensures)
    (both_found _ _ _ _ _ _ y z (rw c.deref-in-For-2.ensures at c.add_targets-next.ensures) (rw c.deref-in-For-3.ensures at c.add_targets-in-For.ensures) c.and-in-For.ensures) c.and-in-For-2.ensures)

pub add_all_targets-statements-preserved : goal.add_all_targets-statements-preserved
add_all_targets-statements-preserved t c = one_more (λ s. written_by (statement_view s)) (λ ss. written_by_all (statements_view ss)) (λ s ss. refl) c.args.stmts.now c.statements.s-index c.s-item.result (omega arith) c.s-item.is _ _ _ c.statements.invariant c.in_ok-add_targets.ensures

pub add_all_targets-returns : goal.add_all_targets-returns
add_all_targets-returns t c = none_left (λ ss. written_by_all (statements_view ss)) refl c.args.stmts.now c.statements.s-index (omega arith) _ _ c.statements.invariant
