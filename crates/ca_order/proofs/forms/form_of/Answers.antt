use Rattle.std.proofs.Common.{ap, sym, ◌∙◌}
use Rattle.ca_forms.specs.declared.form.Normal.TheVariants as normal
use Rattle.ca_forms.specs.Plain.{number_form, truth_form, pointer_form}
use Rattle.ca_norm.specs.Terms.{shape}
use Rattle.ca_norm.specs.Forms.{form_at}
use Rattle.ca_order.specs.Under.{under}
use Rattle.ca_order.proofs.Sorts.{sort_kept}
use Rattle.ca_order.proofs.forms.form_of.Goals as goal

pub returns-in_ok-polynomial_of-in-Long : goal.returns-in_ok-polynomial_of-in-Long
returns-in_ok-polynomial_of-in-Long c =
    let x = shape c.args.term.now in
    let r = c.args.places.now in
    ap normal.Scalar (c.number.ensures ∙ ap number_form c.in_ok-polynomial_of-in-Long.ensures) ∙ ap (λ s. form_at s (under r x)) (sym (sort_kept r x ∙ sym c.sort.ensures ∙ c.in-Long.is))

pub returns-in_ok-polynomial_of-in-Bool : goal.returns-in_ok-polynomial_of-in-Bool
returns-in_ok-polynomial_of-in-Bool c =
    let x = shape c.args.term.now in
    let r = c.args.places.now in
    ap normal.Scalar (c.truth.ensures ∙ ap truth_form c.in_ok-polynomial_of-in-Bool.ensures) ∙ ap (λ s. form_at s (under r x)) (sym (sort_kept r x ∙ sym c.sort.ensures ∙ c.in-Bool.is))

pub returns-in_ok-pointer_of-in-Pointer : goal.returns-in_ok-pointer_of-in-Pointer
returns-in_ok-pointer_of-in-Pointer c =
    let x = shape c.args.term.now in
    let r = c.args.places.now in
    ap normal.Scalar (c.pointer.ensures ∙ ap pointer_form c.in_ok-pointer_of-in-Pointer.ensures) ∙ ap (λ s. form_at s (under r x)) (sym (sort_kept r x ∙ sym c.sort.ensures ∙ c.in-Pointer.is))

pub returns-in_ok-array_of-in-LongArray : goal.returns-in_ok-array_of-in-LongArray
returns-in_ok-array_of-in-LongArray c =
    let x = shape c.args.term.now in
    let r = c.args.places.now in
    ap normal.Array c.in_ok-array_of-in-LongArray.ensures ∙ ap (λ s. form_at s (under r x)) (sym (sort_kept r x ∙ sym c.sort.ensures ∙ c.in-LongArray.is))

pub returns-in_ok-array_of-in-BoolArray : goal.returns-in_ok-array_of-in-BoolArray
returns-in_ok-array_of-in-BoolArray c =
    let x = shape c.args.term.now in
    let r = c.args.places.now in
    ap normal.Array c.in_ok-array_of-in-BoolArray.ensures ∙ ap (λ s. form_at s (under r x)) (sym (sort_kept r x ∙ sym c.sort.ensures ∙ c.in-BoolArray.is))

pub returns-in_ok-array_of-in-PointerArray : goal.returns-in_ok-array_of-in-PointerArray
returns-in_ok-array_of-in-PointerArray c =
    let x = shape c.args.term.now in
    let r = c.args.places.now in
    ap normal.Array c.in_ok-array_of-in-PointerArray.ensures ∙ ap (λ s. form_at s (under r x)) (sym (sort_kept r x ∙ sym c.sort.ensures ∙ c.in-PointerArray.is))
