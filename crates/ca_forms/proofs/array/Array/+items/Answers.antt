use Rattle.std.proofs.Common.{◌≡◌, IfOk, [], sym, ap, ap₂, ◌∙◌, subst}
use Rattle.ca_sums.specs.Sums.{Sum, AddsSum, collect}
use Rattle.ca_sums.proofs.Additions.{adds_both}
use Rattle.ca_sums.proofs.Entries.{gathered_is}
use Rattle.ca_forms.specs.Plain.{PlainMonomial, PlainPolynomial, PlainScalar}
use Rattle.ca_forms.specs.Lists.{polynomial_of, products_of}
use Rattle.ca_forms.specs.Compare.{monomial_cmp}
use Rattle.ca_forms.specs.Rules.{gathered, chosen}
use Rattle.ca_forms.specs.Arrays.{PlainArray, PlainRows, put_item, with_sums, array_choice}
use Rattle.ca_forms.specs.ArraysSeen.{array_of}
use Rattle.ca_forms.specs.ArrayRules.{same_index, rows_at, products_in, selected}
use Rattle.ca_forms.proofs.Exact.{monomials_exact}
use Rattle.ca_forms.proofs.Gathered.{adds_put, adds_sides}
use Rattle.ca_forms.proofs.Told.{both_told, on_made, chained}
use Rattle.ca_forms.proofs.array.Array.+items.Goals as goal

pub add_item-returns-in-Put-clause-added : goal.add_item-returns-in-Put-clause-added
add_item-returns-in-Put-clause-added t c =
    let a : PlainArray = c.deref.result.now in
    let x : PlainScalar = c.in-Put.x in
    let j : PlainPolynomial = c.args.index.now in
    let k = c.args.factor in
    let old = c.args.form.now.entries in
    let new = c.add_put_of.new.form.entries in
    let is : put_item a c.in-Put.i x ≡ c.args.self.now = ap (λ z. put_item z c.in-Put.i x) c.deref.ensures ∙ ap array_of (sym c.in-Put.is) ∙ c.self.view_is in
    let parts = both_told c.both-parts.result c.same_index.result c.item.result (gathered (same_index c.in-Put.i j)) (gathered (selected a j)) c.both-parts.ensures.first c.both-parts.ensures.second c.same_index.ensures c.item.ensures in
    on_made c.add_put_of.result c.both-parts.result (λ p. (p.0 ≡ gathered (same_index c.in-Put.i j)) × (p.1 ≡ gathered (selected a j))) (λ p. AddsSum old new k (chosen (products_of p.0) (products_in x) (products_of p.1))) (AddsSum old new k (selected c.args.self.now j))
    (λ p w added. subst (λ (z : PlainArray). AddsSum old new k (selected z j)) is (adds_put old new k (same_index c.in-Put.i j) (products_in x) (selected a j) (rw (← w.0, ← w.1) added))) parts c.add_put_of.ensures.added

pub add_item-returns-in-Sums-clause-added : goal.add_item-returns-in-Sums-clause-added
add_item-returns-in-Sums-clause-added t c =
    let a : PlainArray = c.deref-in-Sums.result.now in
    let rs : PlainRows = c.deref-in-Sums-2.result.now in
    let j : PlainPolynomial = c.args.index.now in
    let k = c.args.factor in
    let old = c.args.form.now.entries in
    let mid = c.add_item-before.new.form.entries in
    let new = c.add_rows_at.new.form.entries in
    let is : with_sums a rs ≡ c.args.self.now = ap₂ with_sums c.deref-in-Sums.ensures (c.deref-in-Sums-2.ensures.value ∙ c.rows.view_is) ∙ ap array_of (sym c.in-Sums.is) ∙ c.self.view_is in
    chained c.add_item-before.result c.add_rows_at.result c.and.result (AddsSum old mid k (selected a j)) (AddsSum mid new k (rows_at j rs)) (AddsSum old new k (selected c.args.self.now j))
    (λ first added. subst (λ (z : PlainArray). AddsSum old new k (selected z j)) is (adds_both old mid new k (selected a j) (rows_at j rs) first added)) c.add_item-before.ensures.added c.add_rows_at.ensures.added c.and.ensures

pub add_item-returns-in-Choice-clause-added : goal.add_item-returns-in-Choice-clause-added
add_item-returns-in-Choice-clause-added t c =
    let a : PlainArray = c.deref-in-Choice.result.now in
    let b : PlainArray = c.deref-in-Choice-2.result.now in
    let j : PlainPolynomial = c.args.index.now in
    let k = c.args.factor in
    let old = c.args.form.now.entries in
    let new = c.add_sides.new.form.entries in
    let is : array_choice c.in-Choice.c a b ≡ c.args.self.now = ap₂ (λ y z. array_choice c.in-Choice.c y z) c.deref-in-Choice.ensures c.deref-in-Choice-2.ensures ∙ ap array_of (sym c.in-Choice.is) ∙ c.self.view_is in
    let sides = both_told c.both-sides.result c.item-in-Choice.result c.item-in-Choice-2.result (gathered (selected a j)) (gathered (selected b j)) c.both-sides.ensures.first c.both-sides.ensures.second c.item-in-Choice.ensures c.item-in-Choice-2.ensures in
    on_made c.add_sides.result c.both-sides.result (λ p. (p.0 ≡ gathered (selected a j)) × (p.1 ≡ gathered (selected b j))) (λ p. AddsSum old new k (chosen (products_of c.in-Choice.c) (products_of p.0) (products_of p.1))) (AddsSum old new k (selected c.args.self.now j))
    (λ p w added. subst (λ (z : PlainArray). AddsSum old new k (selected z j)) is (adds_sides old new k (products_of c.in-Choice.c) (selected a j) (selected b j) (rw (← w.0, ← w.1) added))) sides c.add_sides.ensures.added

pub item-returns : goal.item-returns
item-returns t c =
    let es = c.add_item.new.form.entries in
    let ps : Sum PlainMonomial = selected c.args.self.now c.args.index.now in
    let added : AddsSum [] es 1 ps = rw (← c.new-form.ensures.empty) c.in_ok-add_item.ensures.added in
    let e : es ≡ collect monomial_cmp ps = gathered_is monomial_cmp monomials_exact es ps c.finish.ensures.ordered c.in_ok-add_item.ensures.nonzero added in
    subst (λ (z : Sum PlainMonomial). IfOk c.finish.result (λ f. f ≡ polynomial_of z)) e c.finish.ensures.value
