use Rattle.std.proofs.Common.{rules, ◌≡◌, ℕ, ◌+◌, List, [], ◌∷◌, ◌++◌, take, sym, ap, subst, ◌∙◌}
use Rattle.std.proofs.lemmas.List.{take_more}
use Rattle.ca_folds.proofs.Rising.{Rising}
use Rattle.ca_forms.specs.Plain.{PlainPart, PlainMonomial, PlainScalar}
use Rattle.ca_forms.specs.Compare.{scalar_cmp}
use Rattle.ca_forms.specs.Seen.{part_of, over}
use Rattle.ca_forms.proofs.Told.{copied, made}
use Rattle.ca_forms.proofs.+copy.Goals as goal

pub copies::copy_powers-loop-power-preserved : goal.copies::copy_powers-loop-power-preserved
copies::copy_powers-loop-power-preserved t c =
    let i : ℕ = c.loop-power.power-index in
    let xs : List (PlainPart × ℕ) = c.args.powers.now in
    let x : PlainPart × ℕ = c.power-item.result in
    let step : take (i + 1) xs ≡ take i xs ++ x ∷ [] = search (rules, take_more) in
    copied xs i x c.copy.result c.loop-power.copies.items c.add.new.items.items step c.loop-power.invariant c.in_ok-add.ensures c.copy.ensures

pub copies::copy_products-loop-product-preserved : goal.copies::copy_products-loop-product-preserved
copies::copy_products-loop-product-preserved t c =
    let i : ℕ = c.loop-product.product-index in
    let xs : List (PlainMonomial × ℕ) = c.args.products.now in
    let x : PlainMonomial × ℕ = c.product-item.result in
    let step : take (i + 1) xs ≡ take i xs ++ x ∷ [] = search (rules, take_more) in
    copied xs i x c.copy.result c.loop-product.copies.items c.add.new.items.items step c.loop-product.invariant c.in_ok-add.ensures c.copy.ensures

pub copies::copy_scalars-loop-scalar-preserved : goal.copies::copy_scalars-loop-scalar-preserved
copies::copy_scalars-loop-scalar-preserved t c =
    let i : ℕ = c.loop-scalar.scalar-index in
    let xs : List (PlainScalar) = c.args.scalars.now in
    let x : PlainScalar = c.scalar-item.result in
    let step : take (i + 1) xs ≡ take i xs ++ x ∷ [] = search (rules, take_more) in
    copied xs i x c.copy.result c.loop-scalar.copies.items c.add.new.items.items step c.loop-scalar.invariant c.in_ok-add.ensures c.copy.ensures

pub polynomial::Part::copy_operation-returns-in-Over : goal.polynomial::Part::copy_operation-returns-in-Over
polynomial::Part::copy_operation-returns-in-Over t c =
    made c.over.result c.copy.result (over c.in-Over.f) c.args.self.now (λ v. v ≡ c.in-Over.a) (λ v e. ap (over c.in-Over.f) e ∙ (ap part_of (sym c.in-Over.is) ∙ c.self.view_is)) c.copy.ensures c.over.ensures

pub polynomial::Operands::copy-invariant_of-result : goal.polynomial::Operands::copy-invariant_of-result
polynomial::Operands::copy-invariant_of-result t c = subst (Rising scalar_cmp) (sym (c.in_ok-items.ensures ∙ c.deref.ensures.value)) c.self.invariant
