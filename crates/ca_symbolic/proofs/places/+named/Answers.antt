use Rattle.std.proofs.Common.{◌≡◌, ◌+◌, ◌∷◌, ◌++◌, drop, List, sym, ap, ◌∙◌}
use Rattle.std.proofs.lemmas.List.{drop_all}
use Rattle.ca_lists.proofs.Places.{item_and_rest}
use Rattle.ca_program.specs.declared.program.Stmt.{Stmt}
use Rattle.ca_program.specs.View.{form_view, expression_view, expressions_view, statement_view, statements_view}
use Rattle.ca_symbolic.specs.clauses.Places.{marked, locals_in, locals_in_all, locals_named, locals_named_all}
use Rattle.ca_symbolic.proofs.Marks.{marked_two, marked_step}
use Rattle.ca_symbolic.proofs.places.+named.Goals as goal
use Rattle.ca_sweep.proofs.Blocks.{block_view}

pub mark_named-returns-in-Block : goal.mark_named-returns-in-Block
mark_named-returns-in-Block t c =
    (rw c.deref.ensures.value at c.mark_all_named.ensures) ∙ ap (λ x. marked c.args.marks.now.items (locals_named x)) (sym (block_view c.args.s.now c.in-Block.stmts c.in-Block.is))

pub mark_named-returns-in-PutItem : goal.mark_named-returns-in-PutItem
mark_named-returns-in-PutItem t c =
    let v = c.in-PutItem in
    let ms = c.args.marks.now.items in
    let m1 = c.mark_names.new.marks.items in
    let x1 = locals_in (expression_view v.i) in
    let e1 : m1 ≡ marked ms x1 = c.mark_names.ensures in
    let m2 = c.mark_names-in-PutItem.new.marks.items in
    let x2 = locals_in (expression_view v.e) in
    let e2 : m2 ≡ marked m1 x2 = c.mark_names-in-PutItem.ensures in
    marked_two ms m1 m2 x1 x2 e1 e2 ∙ ap (λ k. marked ms (locals_named (form_view k c.args.s.now.line))) (sym v.is)

pub mark_named-returns-in-Invoke : goal.mark_named-returns-in-Invoke
mark_named-returns-in-Invoke t c =
    let v = c.in-Invoke in
    let ms = c.args.marks.now.items in
    let m1 = c.mark_names-in-Invoke.new.marks.items in
    let x1 = locals_in (expression_view v.p) in
    let e1 : m1 ≡ marked ms x1 = c.mark_names-in-Invoke.ensures in
    let m2 = c.mark_all_names.new.marks.items in
    let x2 = locals_in_all (expressions_view v.args.items) in
    let e2 : m2 ≡ marked m1 x2 = rw c.deref-in-Invoke.ensures.value at c.mark_all_names.ensures in
    marked_two ms m1 m2 x1 x2 e1 e2 ∙ ap (λ k. marked ms (locals_named (form_view k c.args.s.now.line))) (sym v.is)

pub mark_named-returns-in-If : goal.mark_named-returns-in-If
mark_named-returns-in-If t c =
    let v = c.in-If in
    let ms = c.args.marks.now.items in
    let m1 = c.mark_names-in-If.new.marks.items in
    let x1 = locals_in (expression_view v.c) in
    let e1 : m1 ≡ marked ms x1 = c.mark_names-in-If.ensures in
    let m2 = c.mark_named.new.marks.items in
    let x2 = locals_named (statement_view v.yes.value) in
    let e2 : m2 ≡ marked m1 x2 = rw c.deref-in-If.ensures at c.mark_named.ensures in
    let m3 = c.mark_named-in-If.new.marks.items in
    let x3 = locals_named (statement_view v.no.value) in
    let e3 : m3 ≡ marked m2 x3 = rw c.deref-in-If-2.ensures at c.mark_named-in-If.ensures in
    marked_two ms m1 m3 x1 (x2 ++ x3) e1 (marked_two m1 m2 m3 x2 x3 e2 e3) ∙ ap (λ k. marked ms (locals_named (form_view k c.args.s.now.line))) (sym v.is)

pub mark_named-returns-in-While : goal.mark_named-returns-in-While
mark_named-returns-in-While t c =
    let v = c.in-While in
    let ms = c.args.marks.now.items in
    let m1 = c.mark_names-in-While.new.marks.items in
    let x1 = locals_in (expression_view v.c) in
    let e1 : m1 ≡ marked ms x1 = c.mark_names-in-While.ensures in
    let m2 = c.mark_named-in-While.new.marks.items in
    let x2 = locals_named (statement_view v.body.value) in
    let e2 : m2 ≡ marked m1 x2 = rw c.deref-in-While.ensures at c.mark_named-in-While.ensures in
    marked_two ms m1 m2 x1 x2 e1 e2 ∙ ap (λ k. marked ms (locals_named (form_view k c.args.s.now.line))) (sym v.is)

pub mark_named-returns-in-For : goal.mark_named-returns-in-For
mark_named-returns-in-For t c =
    let v = c.in-For in
    let ms = c.args.marks.now.items in
    let m1 = c.mark_named-in-For.new.marks.items in
    let x1 = locals_named (statement_view v.first.value) in
    let e1 : m1 ≡ marked ms x1 = rw c.deref-in-For.ensures at c.mark_named-in-For.ensures in
    let m2 = c.mark_names-in-For.new.marks.items in
    let x2 = locals_in (expression_view v.c) in
    let e2 : m2 ≡ marked m1 x2 = c.mark_names-in-For.ensures in
    let m3 = c.mark_named-in-For-2.new.marks.items in
    let x3 = locals_named (statement_view v.next.value) in
    let e3 : m3 ≡ marked m2 x3 = rw c.deref-in-For-2.ensures at c.mark_named-in-For-2.ensures in
    let m4 = c.mark_named-in-For-3.new.marks.items in
    let x4 = locals_named (statement_view v.body.value) in
    let e4 : m4 ≡ marked m3 x4 = rw c.deref-in-For-3.ensures at c.mark_named-in-For-3.ensures in
    marked_two ms m1 m4 x1 (x2 ++ (x3 ++ x4)) e1 (marked_two m1 m2 m4 x2 (x3 ++ x4) e2 (marked_two m2 m3 m4 x3 x4 e3 e4)) ∙ ap (λ k. marked ms (locals_named (form_view k c.args.s.now.line))) (sym v.is)

pub mark_all_named-statements-preserved : goal.mark_all_named-statements-preserved
mark_all_named-statements-preserved t c =
    let rest = drop (c.statements.s-index + 1) c.args.stmts.now in
    let opened : drop c.statements.s-index c.args.stmts.now ≡ c.s-item.result ∷ rest = item_and_rest c.args.stmts.now c.statements.s-index c.s-item.result c.statements-test.true c.s-item.is in
    marked_step c.statements.marks.items c.mark_named.new.marks.items _ (locals_named (statement_view c.s-item.result)) (locals_named_all (statements_view rest)) c.mark_named.ensures
    (ap (λ l. marked c.statements.marks.items (locals_named_all (statements_view l))) (sym opened) ∙ c.statements.invariant)

pub mark_all_named-returns : goal.mark_all_named-returns
mark_all_named-returns t c =
    ap (λ (xs : List Stmt). marked c.statements.marks.items (locals_named_all (statements_view xs))) (sym (drop_all c.statements.s-index c.args.stmts.now c.statements-test.false)) ∙ c.statements.invariant
