use Rattle.std.proofs.Common.{rules, ◌≡◌, ℕ, ◌+◌, ◌*◌, ◌%◌, ◌^◌, drop, drop-cons, sym, subst, ◌∷◌, List}
use Rattle.ca_sums.specs.Sums.{Adds, AddsSum}
use Rattle.ca_forms.specs.Plain.{PlainMonomial}
use Rattle.ca_forms.proofs.Gathered.{adds_more}
use Rattle.ca_forms.proofs.sums.add_all.Goals as goal

pub loop-product-preserved : goal.loop-product-preserved
loop-product-preserved c =
    let i : ℕ = c.loop-product.product-index in
    let x : PlainMonomial × ℕ = c.product-item.result in
    let rest : List (PlainMonomial × ℕ) = drop (i + 1) c.args.products.now in
    let step : drop i c.args.products.now ≡ x ∷ rest = search (rules, drop-cons) in
    let adds : Adds c.loop-product.form.entries c.add_product.new.form.entries x.0 ((c.args.factor * x.1) % (2 ^ 64)) = rw (← c.product.view_is, ← c.in_ok-monomial.ensures) c.in_ok-add_product.ensures.added in
    (c.in_ok-add_product.ensures.nonzero, λ end t. c.loop-product.invariant.1 end (subst (λ z. AddsSum c.loop-product.form.entries end c.args.factor z) (sym step) (adds_more c.loop-product.form.entries c.add_product.new.form.entries end c.args.factor x rest adds t)))
