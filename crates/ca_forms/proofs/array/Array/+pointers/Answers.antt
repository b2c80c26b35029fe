use Rattle.std.proofs.Common.{◌≡◌, sym, ap, ap₂, ◌∙◌}
use Rattle.ca_forms.specs.Plain.{PlainPolynomial, PlainPointer, pointer_part, own_item}
use Rattle.ca_forms.specs.Rules.{gathered, chosen_pointer}
use Rattle.ca_forms.specs.Arrays.{PlainArray, put_item, with_sums, array_choice}
use Rattle.ca_forms.specs.ArraysSeen.{array_of}
use Rattle.ca_forms.specs.ArrayRules.{same_index, pointer_in, selected_pointer}
use Rattle.ca_forms.proofs.Told.{if_ok, made, both_told, sides_told}
use Rattle.ca_forms.proofs.array.Array.+pointers.Goals as goal

pub returns-in-Items : goal.returns-in-Items
returns-in-Items t c =
    let j : PlainPolynomial = c.args.index.now in
    let own : PlainPolynomial → PlainPointer = λ i. pointer_part (own_item c.in-Items.s c.in-Items.g c.in-Items.n i) in
    let is : own j ≡ selected_pointer c.args.self.now j = ap (λ z. selected_pointer z j) (ap array_of (sym c.in-Items.is) ∙ c.self.view_is) in
    made c.own_pointer.result c.copy.result own (selected_pointer c.args.self.now j) (λ i. i ≡ j) (λ i e. ap own e ∙ is) c.copy.ensures c.own_pointer.ensures

pub returns-in-Put : goal.returns-in-Put
returns-in-Put t c =
    let a : PlainArray = c.deref.result.now in
    let j : PlainPolynomial = c.args.index.now in
    let is : put_item a c.in-Put.i c.in-Put.x ≡ c.args.self.now = ap (λ z. put_item z c.in-Put.i c.in-Put.x) c.deref.ensures ∙ ap array_of (sym c.in-Put.is) ∙ c.self.view_is in
    sides_told c.pointer_of_sides.result c.same_index.result c.both-sides.result chosen_pointer (gathered (same_index c.in-Put.i j)) (pointer_in c.in-Put.x) (selected_pointer a j) (selected_pointer c.args.self.now j)
    (ap (λ z. selected_pointer z j) is) c.same_index.ensures
    (both_told c.both-sides.result c.pointer_in.result c.pointer_at.result (pointer_in c.in-Put.x) (selected_pointer a j) c.both-sides.ensures.first c.both-sides.ensures.second c.pointer_in.ensures c.pointer_at.ensures)
    c.pointer_of_sides.ensures

pub returns-in-Sums : goal.returns-in-Sums
returns-in-Sums t c =
    let a : PlainArray = c.deref-in-Sums.result.now in
    let j : PlainPolynomial = c.args.index.now in
    let is : with_sums a c.in-Sums.field-1 ≡ c.args.self.now = ap (λ z. with_sums z c.in-Sums.field-1) c.deref-in-Sums.ensures ∙ ap array_of (sym c.in-Sums.is) ∙ c.self.view_is in
    if_ok c.pointer_at-in-Sums.result (selected_pointer a j) (selected_pointer c.args.self.now j) (ap (λ z. selected_pointer z j) is) c.pointer_at-in-Sums.ensures

pub returns-in-Choice : goal.returns-in-Choice
returns-in-Choice t c =
    let a : PlainArray = c.deref-in-Choice.result.now in
    let b : PlainArray = c.deref-in-Choice-2.result.now in
    let j : PlainPolynomial = c.args.index.now in
    let is : array_choice c.in-Choice.c a b ≡ c.args.self.now = ap₂ (λ y z. array_choice c.in-Choice.c y z) c.deref-in-Choice.ensures c.deref-in-Choice-2.ensures ∙ ap array_of (sym c.in-Choice.is) ∙ c.self.view_is in
    sides_told c.pointer_of_sides-in-Choice.result c.copy-in-Choice.result c.both-sides-in-Choice.result chosen_pointer c.in-Choice.c (selected_pointer a j) (selected_pointer b j) (selected_pointer c.args.self.now j)
    (ap (λ z. selected_pointer z j) is) c.copy-in-Choice.ensures
    (both_told c.both-sides-in-Choice.result c.pointer_at-in-Choice.result c.pointer_at-in-Choice-2.result (selected_pointer a j) (selected_pointer b j) c.both-sides-in-Choice.ensures.first c.both-sides-in-Choice.ensures.second c.pointer_at-in-Choice.ensures c.pointer_at-in-Choice-2.ensures)
    c.pointer_of_sides-in-Choice.ensures
