use Rattle.std.proofs.Common.{◌≡◌, ℕ, ◌*◌, ◌%◌, ◌^◌, [], ◌∷◌, ◌++◌, sym, subst}
use Rattle.ca_sums.specs.Sums.{Sum, Adds, AddsSum}
use Rattle.ca_forms.specs.Plain.{PlainMonomial}
use Rattle.ca_forms.proofs.Gathered.{adds_last}
use Rattle.ca_forms.proofs.sums.add_owned.Goals as goal

pub loop-product-preserved : goal.loop-product-preserved
loop-product-preserved c =
    let x : PlainMonomial × ℕ = c.in-Some.product in
    let left : Sum PlainMonomial = c.pop.new.self.items in
    let adds : Adds c.loop-product.form.entries c.add_product.new.form.entries x.0 ((c.args.factor * x.1) % (2 ^ 64)) = rw (← c.product.view_is) c.in_ok-add_product.ensures.added in
    let e : c.loop-product.rest.items ≡ left ++ x ∷ [] = c.in-Some.ensures.items in
    (c.in_ok-add_product.ensures.nonzero, λ end t. c.loop-product.invariant.1 end (subst (λ z. AddsSum c.loop-product.form.entries end c.args.factor z) (sym e) (adds_last c.loop-product.form.entries c.add_product.new.form.entries end c.args.factor x left adds t)))
