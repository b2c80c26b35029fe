use Rattle.std.proofs.Common.{◌≡◌, [], ◌∷◌, ◌++◌, refl, ap, ◌∙◌, arith}
use Rattle.ca_program.specs.Plain.{value_call}
use Rattle.ca_program.specs.View.{expression_view, expressions_view}
use Rattle.ca_program.proofs.Rows.{row_is_list}
use Rattle.ca_extent.specs.clauses.Numbers.{values_in, values_in_all}
use Rattle.ca_extent.proofs.Walks.{one_more, none_left, both_found, found_at}
use Rattle.ca_extent.proofs.numbers.+values.Goals as goal

pub add_all_values-expressions-preserved : goal.add_all_values-expressions-preserved
add_all_values-expressions-preserved t c = one_more (λ e. values_in (expression_view e)) (λ es. values_in_all (expressions_view es)) (λ e es. refl) c.args.es.now c.expressions.e-index c.e-item.result (omega arith) c.e-item.is _ _ _ c.expressions.invariant c.in_ok-add_values.ensures

pub add_all_values-returns : goal.add_all_values-returns
add_all_values-returns t c = none_left (λ es. values_in_all (expressions_view es)) refl c.args.es.now c.expressions.e-index (omega arith) _ _ c.expressions.invariant

pub add_values-returns-in-ReadItem : goal.add_values-returns-in-ReadItem
add_values-returns-in-ReadItem t c =
    found_at values_in _ _ _ (expression_view c.args.e.now) _ (ap expression_view c.in-ReadItem.is)
    (both_found _ _ _ _ _ _ (values_in (expression_view c.in-ReadItem.object.value)) (values_in (expression_view c.in-ReadItem.index.value))
    (rw c.deref-in-ReadItem.ensures at c.add_values-in-ReadItem.ensures) (rw c.deref-in-ReadItem-2.ensures at c.add_values-in-ReadItem-2.ensures) c.and.ensures)

pub add_values-returns-in-Value : goal.add_values-returns-in-Value
add_values-returns-in-Value t c =
    let is : expression_view c.args.e.now ≡ value_call (expression_view c.in-Value.object.value) c.in-Value.function (expressions_view c.in-Value.arguments.items) =
    ap expression_view c.in-Value.is ∙ ap (λ z. value_call (expression_view c.in-Value.object.value) c.in-Value.function z) (row_is_list c.in-Value.arguments) in
    let x = values_in (expression_view c.in-Value.object.value) in
    let y = values_in_all (expressions_view c.in-Value.arguments.items) in
    let z = c.in-Value.function.0 ∷ [] in
    found_at values_in _ _ _ (expression_view c.args.e.now) _ is
    (both_found _ _ _ _ _ _ x (y ++ z) (rw c.deref-in-Value.ensures at c.add_values-object.ensures)
    (both_found _ _ _ _ _ _ y z (rw c.deref-in-Value-2.ensures.value at c.add_all_values-arguments.ensures) c.add.ensures c.and-in-Value.ensures) c.and-in-Value-2.ensures)

pub add_values-returns-in-Binary : goal.add_values-returns-in-Binary
add_values-returns-in-Binary t c =
    found_at values_in _ _ _ (expression_view c.args.e.now) _ (ap expression_view c.in-Binary.is)
    (both_found _ _ _ _ _ _ (values_in (expression_view c.in-Binary.left.value)) (values_in (expression_view c.in-Binary.right.value))
    (rw c.deref-in-Binary.ensures at c.add_values-in-Binary.ensures) (rw c.deref-in-Binary-2.ensures at c.add_values-in-Binary-2.ensures) c.and-in-Binary.ensures)
