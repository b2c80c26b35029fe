use Rattle.std.proofs.Common.{◌≡◌, ◌+◌, ◌∷◌, ◌++◌, drop, List, sym, ap, ◌∙◌}
use Rattle.std.proofs.lemmas.List.{drop_all, map-append}
use Rattle.ca_lists.proofs.Places.{item_and_rest}
use Rattle.ca_program.specs.declared.program.FieldId.{FieldId}
use Rattle.ca_program.specs.declared.program.Stmt.{Stmt}
use Rattle.ca_program.specs.View.{form_view, statement_view, statements_view}
use Rattle.ca_parallel.specs.Bodies.{targets_of, targets_of_all}
use Rattle.ca_symbolic.specs.clauses.Places.{marked, fields_put, fields_put_all}
use Rattle.ca_symbolic.proofs.Marks.{marked_step, fields_two}
use Rattle.ca_symbolic.proofs.places.+fields.Goals as goal
use Rattle.ca_sweep.proofs.Blocks.{block_view}

pub mark_fields-returns-in-Block : goal.mark_fields-returns-in-Block
mark_fields-returns-in-Block t c =
    (rw c.deref.ensures.value at c.mark_all_fields.ensures) ∙ ap (λ x. marked c.args.marks.now.items (fields_put x)) (sym (block_view c.args.s.now c.in-Block.stmts c.in-Block.is))

pub mark_fields-returns-in-If : goal.mark_fields-returns-in-If
mark_fields-returns-in-If t c =
    let v = c.in-If in
    let ms = c.args.marks.now.items in
    let one : c.mark_fields.new.marks.items ≡ marked ms (fields_put (statement_view v.yes.value)) = rw c.deref-in-If.ensures at c.mark_fields.ensures in
    let two : c.mark_fields-in-If.new.marks.items ≡ marked c.mark_fields.new.marks.items (fields_put (statement_view v.no.value)) = rw c.deref-in-If-2.ensures at c.mark_fields-in-If.ensures in
    fields_two ms c.mark_fields.new.marks.items c.mark_fields-in-If.new.marks.items (targets_of (statement_view v.yes.value)) (targets_of (statement_view v.no.value)) one two
    ∙ ap (λ k. marked ms (fields_put (form_view k c.args.s.now.line))) (sym v.is)

pub mark_fields-returns-in-For : goal.mark_fields-returns-in-For
mark_fields-returns-in-For t c =
    let v = c.in-For in
    let ms = c.args.marks.now.items in
    let m1 = c.mark_fields-in-For.new.marks.items in
    let m2 = c.mark_fields-in-For-2.new.marks.items in
    let m3 = c.mark_fields-in-For-3.new.marks.items in
    let a = targets_of (statement_view v.first.value) in
    let b = targets_of (statement_view v.next.value) in
    let d = targets_of (statement_view v.body.value) in
    let one : m1 ≡ marked ms (fields_put (statement_view v.first.value)) = rw c.deref-in-For.ensures at c.mark_fields-in-For.ensures in
    let two : m2 ≡ marked m1 (fields_put (statement_view v.next.value)) = rw c.deref-in-For-2.ensures at c.mark_fields-in-For-2.ensures in
    let three : m3 ≡ marked m2 (fields_put (statement_view v.body.value)) = rw c.deref-in-For-3.ensures at c.mark_fields-in-For-3.ensures in
    fields_two ms m1 m3 a (b ++ d) one (fields_two m1 m2 m3 b d two three)
    ∙ ap (λ k. marked ms (fields_put (form_view k c.args.s.now.line))) (sym v.is)

pub mark_all_fields-statements-preserved : goal.mark_all_fields-statements-preserved
mark_all_fields-statements-preserved t c =
    let rest = drop (c.statements.s-index + 1) c.args.stmts.now in
    let opened : drop c.statements.s-index c.args.stmts.now ≡ c.s-item.result ∷ rest = item_and_rest c.args.stmts.now c.statements.s-index c.s-item.result c.statements-test.true c.s-item.is in
    marked_step c.statements.marks.items c.mark_fields.new.marks.items _ (fields_put (statement_view c.s-item.result)) (fields_put_all (statements_view rest)) c.mark_fields.ensures
    (ap (λ ns. marked c.statements.marks.items ns) (sym (map-append (λ (f : FieldId). f.field) (targets_of (statement_view c.s-item.result)) (targets_of_all (statements_view rest)))) ∙ (ap (λ l. marked c.statements.marks.items (fields_put_all (statements_view l))) (sym opened) ∙ c.statements.invariant))

pub mark_all_fields-returns : goal.mark_all_fields-returns
mark_all_fields-returns t c =
    ap (λ (xs : List Stmt). marked c.statements.marks.items (fields_put_all (statements_view xs))) (sym (drop_all c.statements.s-index c.args.stmts.now c.statements-test.false)) ∙ c.statements.invariant
