use Rattle.std.proofs.Common.{rules, refl, ℕ, ◌+◌, ◌∷◌, ◌++◌, ◌≡◌, ◌*◌, ◌-◌, ◌%◌, ◌^◌, ◌∙◌, IfOk, OnOk, ◌≤◌, List, [], length, map, take, ap, ap₂, sym, subst, true}
use Rattle.std.proofs.lemmas.List.{take_all, map-append}
use Rattle.ca_sums.specs.Sums.{Sum, AddsSum, collect}
use Rattle.ca_sums.proofs.Additions.{adds_both}
use Rattle.ca_sums.proofs.Entries.{gathered_is}
use Rattle.ca_forms.specs.declared.sort.Sort.TheVariants.{Long, Bool as Truth, Pointer}
use Rattle.ca_forms.specs.Plain.{PlainMonomial, result_of, pointer_form, truth_form, number_form}
use Rattle.ca_forms.specs.Lists.{polynomial_of, scalars_of}
use Rattle.ca_forms.specs.Compare.{monomial_cmp}
use Rattle.ca_forms.specs.Rules.{gathered, minus, truth_sum, same_pointers}
use Rattle.ca_forms.proofs.Exact.{monomials_exact}
use Rattle.ca_forms.proofs.Told.{on_ok, put_behind}
use Rattle.ca_forms.proofs.Gathered.{adds_gathered, adds_chosen, adds_scaled, adds_either, adds_same_truths}
use Rattle.ca_order.specs.Under.{under, all_under}
use Rattle.ca_order.specs.clauses.Gathered.{same_known}
use Rattle.ca_order.proofs.Gathering.{expand_equal, expand_other}
use Rattle.ca_order.proofs.Rows.{rows_under}
use Rattle.ca_order.proofs.Sorts.{sort_kept}
use Rattle.ca_norm.specs.declared.term.Term.{Term}
use Rattle.ca_norm.specs.Terms.{PlainTerm, result, select, shape, sort_of, terms_of}
use Rattle.ca_forms.specs.Folds.{fold_form}
use Rattle.ca_forms.specs.ArrayRules.{selected, selected_pointer}
use Rattle.ca_norm.specs.Forms.{expand, scalar_at, part_of, pointer_of, array_of, scalar_of, arguments_of}
use Rattle.ca_norm.proofs.Shapes.{call_is, arguments_forms, shapes_more}
use Rattle.ca_norm.proofs.BothKnown.{both_known, both_made}
use Rattle.ca_order.proofs.gather.+under.Goals as goal

pub add_linear-returns-in_ok-add_term-in-Add-clause-added : goal.add_linear-returns-in_ok-add_term-in-Add-clause-added
add_linear-returns-in_ok-add_term-in-Add-clause-added t c =
    rw (c.in-Add.is, ← c.deref.ensures, ← c.deref-in-Add.ensures) (on_ok c.add_term-in-Add.result _ _
    (adds_both c.args.form.now.entries c.add_term.new.form.entries c.add_term-in-Add.new.form.entries c.args.factor (expand (under c.args.places.now (shape c.deref.result.now))) (expand (under c.args.places.now (shape c.deref-in-Add.result.now))) c.in_ok-add_term-in-Add.ensures.added)
    c.add_term-in-Add.ensures.added)

pub add_linear-returns-in_ok-add_term-in-Sub-clause-added : goal.add_linear-returns-in_ok-add_term-in-Sub-clause-added
add_linear-returns-in_ok-add_term-in-Sub-clause-added t c =
    let b : Sum PlainMonomial = expand (under c.args.places.now (shape c.deref-in-Sub-2.result.now)) in
    let mid = c.add_term-in-Sub.new.form.entries in
    let new = c.add_term-in-Sub-2.new.form.entries in
    rw (c.in-Sub.is, ← c.deref-in-Sub.ensures, ← c.deref-in-Sub-2.ensures) (on_ok c.add_term-in-Sub-2.result _ _
    (λ (added : AddsSum mid new ((c.args.factor * (2 ^ 64 - 1)) % (2 ^ 64)) b). adds_both c.args.form.now.entries mid new c.args.factor (expand (under c.args.places.now (shape c.deref-in-Sub.result.now))) (minus b) c.in_ok-add_term-in-Sub.ensures.added (adds_scaled mid new c.args.factor (2 ^ 64 - 1) b added))
    (rw c.opposite-opposite.ensures at c.add_term-in-Sub-2.ensures.added))

pub add_linear-returns-in-Neg-clause-added : goal.add_linear-returns-in-Neg-clause-added
add_linear-returns-in-Neg-clause-added t c =
    rw (c.in-Neg.is, ← c.deref-in-Neg.ensures) (on_ok c.add_term-in-Neg.result _ _
    (adds_scaled c.args.form.now.entries c.add_term-in-Neg.new.form.entries c.args.factor (2 ^ 64 - 1) (expand (under c.args.places.now (shape c.deref-in-Neg.result.now))))
    (rw c.opposite-opposite.ensures at c.add_term-in-Neg.ensures.added))

pub add_linear-returns-in_ok-add_truth-in-Not-clause-added : goal.add_linear-returns-in_ok-add_truth-in-Not-clause-added
add_linear-returns-in_ok-add_truth-in-Not-clause-added t c =
    let a : Sum PlainMonomial = expand (under c.args.places.now (shape c.deref-in-Not.result.now)) in
    let mid = c.add_truth-in-Not.new.form.entries in
    let new = c.add_term-in-Not.new.form.entries in
    rw (c.in-Not.is, ← c.deref-in-Not.ensures) (on_ok c.add_term-in-Not.result _ _
    (λ (added : AddsSum mid new ((c.args.factor * (2 ^ 64 - 1)) % (2 ^ 64)) a). adds_both c.args.form.now.entries mid new c.args.factor (truth_sum true) (minus a) c.in_ok-add_truth-in-Not.ensures.added (adds_scaled mid new c.args.factor (2 ^ 64 - 1) a added))
    (rw c.opposite-opposite.ensures at c.add_term-in-Not.ensures.added))

pub add_multiplied-returns-in_ok-f-in-Mul-clause-added : goal.add_multiplied-returns-in_ok-f-in-Mul-clause-added
add_multiplied-returns-in_ok-f-in-Mul-clause-added t c =
    let first : c.in_ok-f-in-Mul.f ≡ gathered (expand (under c.args.places.now (shape c.deref.result.now))) = search rules in
    let second : c.in_ok-f-in-Mul.g ≡ gathered (expand (under c.args.places.now (shape c.deref-in-Mul.result.now))) = search rules in
    rw (c.in-Mul.is, ← c.deref.ensures, ← c.deref-in-Mul.ensures) (on_ok c.add_product_of.result _ _
    (adds_gathered c.args.form.now.entries c.add_product_of.new.form.entries c.args.factor (expand (under c.args.places.now (shape c.deref.result.now))) (expand (under c.args.places.now (shape c.deref-in-Mul.result.now))))
    (rw (← first, ← second) c.add_product_of.ensures.added))

pub add_multiplied-returns-in_ok-f-in-And-clause-added : goal.add_multiplied-returns-in_ok-f-in-And-clause-added
add_multiplied-returns-in_ok-f-in-And-clause-added t c =
    let first : c.in_ok-f-in-And.f ≡ gathered (expand (under c.args.places.now (shape c.deref-in-And.result.now))) = search rules in
    let second : c.in_ok-f-in-And.g ≡ gathered (expand (under c.args.places.now (shape c.deref-in-And-2.result.now))) = search rules in
    rw (c.in-And.is, ← c.deref-in-And.ensures, ← c.deref-in-And-2.ensures) (on_ok c.add_product_of-in-And.result _ _
    (adds_gathered c.args.form.now.entries c.add_product_of-in-And.new.form.entries c.args.factor (expand (under c.args.places.now (shape c.deref-in-And.result.now))) (expand (under c.args.places.now (shape c.deref-in-And-2.result.now))))
    (rw (← first, ← second) c.add_product_of-in-And.ensures.added))

pub add_multiplied-returns-in_ok-f-in-Or-clause-added : goal.add_multiplied-returns-in_ok-f-in-Or-clause-added
add_multiplied-returns-in_ok-f-in-Or-clause-added t c =
    let first : c.in_ok-f-in-Or.f ≡ gathered (expand (under c.args.places.now (shape c.deref-in-Or.result.now))) = search rules in
    let second : c.in_ok-f-in-Or.g ≡ gathered (expand (under c.args.places.now (shape c.deref-in-Or-2.result.now))) = search rules in
    rw (c.in-Or.is, ← c.deref-in-Or.ensures, ← c.deref-in-Or-2.ensures) (on_ok c.add_either.result _ _
    (adds_either c.args.form.now.entries c.add_either.new.form.entries c.args.factor (expand (under c.args.places.now (shape c.deref-in-Or.result.now))) (expand (under c.args.places.now (shape c.deref-in-Or-2.result.now))))
    (rw (← first, ← second) c.add_either.ensures.added))

pub add_choice-returns-in_ok-f-in-Choose-clause-added : goal.add_choice-returns-in_ok-f-in-Choose-clause-added
add_choice-returns-in_ok-f-in-Choose-clause-added t c =
    let one : c.in_ok-f-in-Choose.f ≡ gathered (expand (under c.args.places.now (shape c.in-Choose.c.value))) = search rules in
    let first : c.in_ok-f-in-Choose.g ≡ gathered (expand (under c.args.places.now (shape c.in-Choose.a.value))) = search rules in
    let second : c.in_ok-f-in-Choose.h ≡ gathered (expand (under c.args.places.now (shape c.in-Choose.b.value))) = search rules in
    rw c.in-Choose.is (on_ok c.add_chosen.result _ _
    (adds_chosen c.args.form.now.entries c.add_chosen.new.form.entries c.args.factor (expand (under c.args.places.now (shape c.in-Choose.c.value))) (expand (under c.args.places.now (shape c.in-Choose.a.value))) (expand (under c.args.places.now (shape c.in-Choose.b.value))))
    (rw (← one, ← first, ← second) c.add_chosen.ensures.added))

pub add_selected-returns-in-Select-clause-added : goal.add_selected-returns-in-Select-clause-added
add_selected-returns-in-Select-clause-added t c =
    rw (c.in-Select.is, ← c.deref.ensures, ← c.deref-in-Select.ensures) (on_ok c.add_item_of.result _ _
    (both_known c.array_of.result c.polynomial_of.result (array_of (under c.args.places.now (shape c.deref.result.now))) (gathered (expand (under c.args.places.now (shape c.deref-in-Select.result.now)))) (λ a i. AddsSum c.args.form.now.entries c.add_item_of.new.form.entries c.args.factor (selected a i)) c.array_of.ensures c.polynomial_of.ensures)
    c.add_item_of.ensures.added)

pub item_pointer-returns-in-Select : goal.item_pointer-returns-in-Select
item_pointer-returns-in-Select t c =
    let is : pointer_of (under c.args.places.now (select (shape c.deref.result.now) (shape c.deref-in-Select.result.now))) ≡ pointer_of (under c.args.places.now (shape c.args.term.now)) = rw (c.in-Select.is, ← c.deref.ensures, ← c.deref-in-Select.ensures) refl in
    both_made c.pointer_of_item.result c.array_of.result c.polynomial_of.result selected_pointer (array_of (under c.args.places.now (shape c.deref.result.now))) (gathered (expand (under c.args.places.now (shape c.deref-in-Select.result.now)))) (pointer_of (under c.args.places.now (shape c.args.term.now))) is c.array_of.ensures c.polynomial_of.ensures c.pointer_of_item.ensures

pub arguments_of-loop-term-preserved : goal.arguments_of-loop-term-preserved
arguments_of-loop-term-preserved t c =
    let i : ℕ = c.loop-term.term-index in
    let ts : List Term = c.args.terms.now in
    let x : Term = c.term-item.result in
    let step : map shape (take (i + 1) ts) ≡ map shape (take i ts) ++ shape x ∷ [] = shapes_more ts i x c.term-item.is c.loop-term-test.true in
    put_behind c.scalar_of.result (scalar_of (under c.args.places.now (shape x))) c.loop-term.items.items c.add.new.items.items c.in_ok-add.ensures c.scalar_of.ensures
    ∙ ap (λ z. z ++ scalar_of (under c.args.places.now (shape x)) ∷ []) c.loop-term.invariant ∙ sym (map-append scalar_of (map (under c.args.places.now) (map shape (take i ts))) (under c.args.places.now (shape x) ∷ [])) ∙ ap (map scalar_of) (sym (map-append (under c.args.places.now) (map shape (take i ts)) (shape x ∷ [])) ∙ ap (map (under c.args.places.now)) (sym step))

pub polynomial_of-returns : goal.polynomial_of-returns
polynomial_of-returns t c =
    let es = c.add_term.new.form.entries in
    let added : AddsSum [] es 1 (expand (under c.args.places.now (shape c.args.term.now))) = rw (← c.new-form.ensures.empty) c.in_ok-add_term.ensures.added in
    let e : es ≡ collect monomial_cmp (expand (under c.args.places.now (shape c.args.term.now))) = gathered_is monomial_cmp monomials_exact es (expand (under c.args.places.now (shape c.args.term.now))) c.finish.ensures.ordered c.in_ok-add_term.ensures.nonzero added in
    subst (λ (z : Sum PlainMonomial). IfOk c.finish.result (λ f. f ≡ polynomial_of z)) e c.finish.ensures.value

pub part_of-returns-in_ok-receiver-in-Result : goal.part_of-returns-in_ok-receiver-in-Result
part_of-returns-in_ok-receiver-in-Result t c =
    let ts : List PlainTerm = map shape c.in-Result.args.items in
    let receiver : c.in_ok-receiver-in-Result.receiver ≡ pointer_of (under c.args.places.now (shape c.in-Result.p.value)) = search rules in
    let args : c.in_ok-receiver-in-Result.args ≡ arguments_of (all_under c.args.places.now (terms_of ts)) = search rules in
    let is : result c.in-Result.sort c.in-Result.method (shape c.in-Result.p.value) (terms_of ts) ≡ shape c.args.term.now = sym (call_is c.in-Result.sort c.in-Result.method c.in-Result.p c.in-Result.args) ∙ sym (ap shape c.in-Result.is) in
    c.call.ensures ∙ ap₂ (result_of c.in-Result.sort c.in-Result.method) receiver args ∙ ap (λ z. part_of (under c.args.places.now z)) is

pub arguments_of-returns : goal.arguments_of-returns
arguments_of-returns t c =
    let r = c.args.places.now in
    let end : length c.args.terms.now ≤ c.loop-term.term-index = c.loop-term-test.false in
    c.of.ensures
    ∙ ap scalars_of (c.loop-term.invariant ∙ ap (λ xs. map scalar_of (map (under r) (map shape xs))) (take_all c.loop-term.term-index c.args.terms.now end))
    ∙ arguments_forms (map (under r) (map shape c.args.terms.now))
    ∙ ap arguments_of (rows_under r (map shape c.args.terms.now))

pub add_equated-returns-in_ok-f-in-Long-clause-added : goal.add_equated-returns-in_ok-f-in-Long-clause-added
add_equated-returns-in_ok-f-in-Long-clause-added t c =
    let r = c.args.places.now in
    let a : PlainTerm = shape c.deref-in-Long.result.now in
    let b : PlainTerm = shape c.deref-in-Long-2.result.now in
    let kind : sort_of a ≡ Long = ap (λ x. sort_of (shape x)) (c.deref-in-Long.ensures ∙ sym c.deref.ensures) ∙ sym c.sort.ensures ∙ c.in-Long.is in
    let first : c.in_ok-f-in-Long.f ≡ gathered (expand (under r a)) = search rules in
    let second : c.in_ok-f-in-Long.g ≡ gathered (expand (under r b)) = search rules in
    rw (c.in-Same.is, ← c.deref-in-Long.ensures, ← c.deref-in-Long-2.ensures)
    (subst (λ (z : Sum PlainMonomial). OnOk c.add_same_under.result (AddsSum c.args.form.now.entries c.add_same_under.new.form.entries c.args.factor z)) (ap₂ (same_known r) first second ∙ sym (expand_equal r a b kind)) c.add_same_under.ensures.added)

pub add_equated-returns-in_ok-f-in-Bool-clause-added : goal.add_equated-returns-in_ok-f-in-Bool-clause-added
add_equated-returns-in_ok-f-in-Bool-clause-added t c =
    let r = c.args.places.now in
    let a : PlainTerm = shape c.deref-in-Bool.result.now in
    let b : PlainTerm = shape c.deref-in-Bool-2.result.now in
    let kind : sort_of a ≡ Truth = ap (λ x. sort_of (shape x)) (c.deref-in-Bool.ensures ∙ sym c.deref.ensures) ∙ sym c.sort.ensures ∙ c.in-Bool.is in
    let first : c.in_ok-f-in-Bool.f ≡ gathered (expand (under r a)) = search rules in
    let second : c.in_ok-f-in-Bool.g ≡ gathered (expand (under r b)) = search rules in
    rw (c.in-Same.is, ← c.deref-in-Bool.ensures, ← c.deref-in-Bool-2.ensures)
    (subst (λ (z : Sum PlainMonomial). OnOk c.add_same_truths.result (AddsSum c.args.form.now.entries c.add_same_truths.new.form.entries c.args.factor z)) (sym (expand_other r a b Truth kind tt))
    (on_ok c.add_same_truths.result _ _
    (adds_same_truths c.args.form.now.entries c.add_same_truths.new.form.entries c.args.factor (expand (under r a)) (expand (under r b)))
    (rw (← first, ← second) c.add_same_truths.ensures.added)))

pub add_equated-returns-in_ok-p-in-Pointer-clause-added : goal.add_equated-returns-in_ok-p-in-Pointer-clause-added
add_equated-returns-in_ok-p-in-Pointer-clause-added t c =
    let r = c.args.places.now in
    let a : PlainTerm = shape c.deref-in-Pointer.result.now in
    let b : PlainTerm = shape c.deref-in-Pointer-2.result.now in
    let kind : sort_of a ≡ Pointer = ap (λ x. sort_of (shape x)) (c.deref-in-Pointer.ensures ∙ sym c.deref.ensures) ∙ sym c.sort.ensures ∙ c.in-Pointer.is in
    let first : c.in_ok-p-in-Pointer.p ≡ pointer_of (under r a) = search rules in
    let second : c.in_ok-p-in-Pointer.q ≡ pointer_of (under r b) = search rules in
    rw (c.in-Same.is, ← c.deref-in-Pointer.ensures, ← c.deref-in-Pointer-2.ensures)
    (subst (λ (z : Sum PlainMonomial). OnOk c.add_same_pointers.result (AddsSum c.args.form.now.entries c.add_same_pointers.new.form.entries c.args.factor z)) (ap₂ same_pointers first second ∙ sym (expand_other r a b Pointer kind tt)) c.add_same_pointers.ensures.added)

pub scalar_of-returns-in_ok-pointer_of-in-Pointer : goal.scalar_of-returns-in_ok-pointer_of-in-Pointer
scalar_of-returns-in_ok-pointer_of-in-Pointer t c =
    let r = c.args.places.now in
    let x : PlainTerm = shape c.args.term.now in
    c.pointer.ensures ∙ ap pointer_form c.in_ok-pointer_of-in-Pointer.ensures ∙ ap (λ s. scalar_at s (expand (under r x)) (pointer_of (under r x))) (sym (sort_kept r x ∙ sym c.sort.ensures ∙ c.in-Pointer.is))

pub scalar_of-returns-in_ok-polynomial_of-in-Bool : goal.scalar_of-returns-in_ok-polynomial_of-in-Bool
scalar_of-returns-in_ok-polynomial_of-in-Bool t c =
    let r = c.args.places.now in
    let x : PlainTerm = shape c.args.term.now in
    c.truth.ensures ∙ ap truth_form c.in_ok-polynomial_of-in-Bool.ensures ∙ ap (λ s. scalar_at s (expand (under r x)) (pointer_of (under r x))) (sym (sort_kept r x ∙ sym c.sort.ensures ∙ c.in-Bool.is))

pub scalar_of-returns-in_ok-polynomial_of-in-Long : goal.scalar_of-returns-in_ok-polynomial_of-in-Long
scalar_of-returns-in_ok-polynomial_of-in-Long t c =
    let r = c.args.places.now in
    let x : PlainTerm = shape c.args.term.now in
    c.number.ensures ∙ ap number_form c.in_ok-polynomial_of-in-Long.ensures ∙ ap (λ s. scalar_at s (expand (under r x)) (pointer_of (under r x))) (sym (sort_kept r x ∙ sym c.sort.ensures ∙ c.in-Long.is))

pub add_folded-returns-in_ok-whole-in-Fold-clause-added : goal.add_folded-returns-in_ok-whole-in-Fold-clause-added
add_folded-returns-in_ok-whole-in-Fold-clause-added t c =
    let r = c.args.places.now in
    let first : c.in_ok-f-in-Fold.f ≡ gathered (expand (under r (shape c.deref.result.now))) = search rules in
    let second : c.in_ok-f-in-Fold.g ≡ gathered (expand (under r (shape c.deref-in-Fold.result.now))) = search rules in
    let whole : c.in_ok-whole-in-Fold.whole ≡ fold_form c.in-Fold.op c.in_ok-f-in-Fold.f c.in_ok-f-in-Fold.g = search rules in
    rw (c.in-Fold.is, ← c.deref.ensures, ← c.deref-in-Fold.ensures, ← first, ← second, ← whole) c.add_whole.ensures.added
