use Rattle.std.proofs.Common.{◌≡◌, ◌+◌, ◌∷◌, drop, List, sym, ap, ◌∙◌}
use Rattle.std.proofs.lemmas.List.{drop_all}
use Rattle.ca_lists.proofs.Places.{item_and_rest}
use Rattle.ca_program.specs.declared.program.Expr.{Expr}
use Rattle.ca_program.specs.View.{expression_view, expressions_view}
use Rattle.ca_symbolic.specs.clauses.Places.{marked, locals_in, locals_in_all}
use Rattle.ca_symbolic.proofs.Blocks.{call_view}
use Rattle.ca_symbolic.proofs.Marks.{marked_append, marked_two, marked_step}
use Rattle.ca_symbolic.proofs.places.+names.Goals as goal

pub mark_names-returns-in-Value : goal.mark_names-returns-in-Value
mark_names-returns-in-Value t c =
    let v = c.in-Value in
    let xs = locals_in_all (expressions_view v.args.items) in
    let one : c.mark_names-in-Value.new.marks.items ≡ marked c.args.marks.now.items (locals_in (expression_view v.p.value)) = rw c.deref-in-Value.ensures at c.mark_names-in-Value.ensures in
    let all : c.mark_all_names.new.marks.items ≡ marked c.mark_names-in-Value.new.marks.items xs = rw c.deref-in-Value-2.ensures.value at c.mark_all_names.ensures in
    all ∙ (ap (λ z. marked z xs) one ∙ (sym (marked_append c.args.marks.now.items (locals_in (expression_view v.p.value)) xs)
    ∙ ap (λ x. marked c.args.marks.now.items (locals_in x)) (sym (call_view c.args.e.now v.p v.field-1 v.args v.is))))

pub mark_all_names-loop-e-preserved : goal.mark_all_names-loop-e-preserved
mark_all_names-loop-e-preserved t c =
    let rest = drop (c.loop-e.e-index + 1) c.args.es.now in
    let opened : drop c.loop-e.e-index c.args.es.now ≡ c.e-item.result ∷ rest = item_and_rest c.args.es.now c.loop-e.e-index c.e-item.result c.loop-e-test.true c.e-item.is in
    marked_step c.loop-e.marks.items c.mark_names.new.marks.items _ (locals_in (expression_view c.e-item.result)) (locals_in_all (expressions_view rest)) c.mark_names.ensures
    (ap (λ l. marked c.loop-e.marks.items (locals_in_all (expressions_view l))) (sym opened) ∙ c.loop-e.invariant)

pub mark_all_names-returns : goal.mark_all_names-returns
mark_all_names-returns t c =
    ap (λ (xs : List Expr). marked c.loop-e.marks.items (locals_in_all (expressions_view xs))) (sym (drop_all c.loop-e.e-index c.args.es.now c.loop-e-test.false)) ∙ c.loop-e.invariant

pub mark_names-returns-in-Binary : goal.mark_names-returns-in-Binary
mark_names-returns-in-Binary t c =
    let v = c.in-Binary in
    let ms = c.args.marks.now.items in
    let m1 = c.mark_names-in-Binary.new.marks.items in
    let x1 = locals_in (expression_view v.a.value) in
    let e1 : m1 ≡ marked ms x1 = rw c.deref-in-Binary.ensures at c.mark_names-in-Binary.ensures in
    let m2 = c.mark_names-in-Binary-2.new.marks.items in
    let x2 = locals_in (expression_view v.b.value) in
    let e2 : m2 ≡ marked m1 x2 = rw c.deref-in-Binary-2.ensures at c.mark_names-in-Binary-2.ensures in
    marked_two ms m1 m2 x1 x2 e1 e2 ∙ ap (λ e. marked ms (locals_in (expression_view e))) (sym v.is)

pub mark_names-returns-in-ReadItem : goal.mark_names-returns-in-ReadItem
mark_names-returns-in-ReadItem t c =
    let v = c.in-ReadItem in
    let ms = c.args.marks.now.items in
    let m1 = c.mark_names-in-ReadItem.new.marks.items in
    let x1 = locals_in (expression_view v.p.value) in
    let e1 : m1 ≡ marked ms x1 = rw c.deref-in-ReadItem.ensures at c.mark_names-in-ReadItem.ensures in
    let m2 = c.mark_names-in-ReadItem-2.new.marks.items in
    let x2 = locals_in (expression_view v.i.value) in
    let e2 : m2 ≡ marked m1 x2 = rw c.deref-in-ReadItem-2.ensures at c.mark_names-in-ReadItem-2.ensures in
    marked_two ms m1 m2 x1 x2 e1 e2 ∙ ap (λ e. marked ms (locals_in (expression_view e))) (sym v.is)
