use Rattle.std.proofs.Common.{◌≡◌, ◌+◌, ◌∷◌, drop, List, sym, ap, ◌∙◌}
use Rattle.std.proofs.lemmas.List.{drop_all}
use Rattle.ca_lists.proofs.Places.{item_and_rest}
use Rattle.ca_program.specs.declared.program.Stmt.{Stmt}
use Rattle.ca_program.specs.View.{form_view, statement_view, statements_view}
use Rattle.ca_symbolic.specs.clauses.Places.{marked, locals_put, locals_put_all}
use Rattle.ca_symbolic.proofs.Marks.{marked_two, marked_step}
use Rattle.ca_symbolic.proofs.places.+locals.Goals as goal
use Rattle.ca_sweep.proofs.Blocks.{block_view}

pub mark_locals-returns-in-Block : goal.mark_locals-returns-in-Block
mark_locals-returns-in-Block t c =
    (rw c.deref.ensures.value at c.mark_all_locals.ensures) ∙ ap (λ x. marked c.args.marks.now.items (locals_put x)) (sym (block_view c.args.s.now c.in-Block.stmts c.in-Block.is))

pub mark_all_locals-statements-preserved : goal.mark_all_locals-statements-preserved
mark_all_locals-statements-preserved t c =
    let rest = drop (c.statements.s-index + 1) c.args.stmts.now in
    let opened : drop c.statements.s-index c.args.stmts.now ≡ c.s-item.result ∷ rest = item_and_rest c.args.stmts.now c.statements.s-index c.s-item.result c.statements-test.true c.s-item.is in
    marked_step c.statements.marks.items c.mark_locals.new.marks.items _ (locals_put (statement_view c.s-item.result)) (locals_put_all (statements_view rest)) c.mark_locals.ensures
    (ap (λ l. marked c.statements.marks.items (locals_put_all (statements_view l))) (sym opened) ∙ c.statements.invariant)

pub mark_all_locals-returns : goal.mark_all_locals-returns
mark_all_locals-returns t c =
    ap (λ (xs : List Stmt). marked c.statements.marks.items (locals_put_all (statements_view xs))) (sym (drop_all c.statements.s-index c.args.stmts.now c.statements-test.false)) ∙ c.statements.invariant

pub mark_locals-returns-in-If : goal.mark_locals-returns-in-If
mark_locals-returns-in-If t c =
    let v = c.in-If in
    let ms = c.args.marks.now.items in
    let m1 = c.mark_locals.new.marks.items in
    let x1 = locals_put (statement_view v.yes.value) in
    let e1 : m1 ≡ marked ms x1 = rw c.deref-in-If.ensures at c.mark_locals.ensures in
    let m2 = c.mark_locals-in-If.new.marks.items in
    let x2 = locals_put (statement_view v.no.value) in
    let e2 : m2 ≡ marked m1 x2 = rw c.deref-in-If-2.ensures at c.mark_locals-in-If.ensures in
    marked_two ms m1 m2 x1 x2 e1 e2 ∙ ap (λ k. marked ms (locals_put (form_view k c.args.s.now.line))) (sym v.is)
