use Rattle.std.proofs.Common.{OnOk, sym, ap₂, ◌∙◌, subst}
use Rattle.ca_sums.specs.Sums.{Sum, AddsSum}
use Rattle.ca_sums.specs.Products.{product}
use Rattle.ca_forms.specs.Plain.{PlainMonomial}
use Rattle.ca_forms.specs.Products.{times}
use Rattle.ca_forms.proofs.Gathered.{products_polynomial}
use Rattle.ca_forms.proofs.sums.add_product_of.Goals as goal

pub returns-clause-added : goal.returns-clause-added
returns-clause-added c =
    rw (← c.f.view_is, ← c.g.view_is) (subst (λ (z : Sum PlainMonomial). OnOk c.add_products.result (AddsSum c.args.form.now.entries c.add_products.new.form.entries c.args.factor z)) (ap₂ (product times) (c.deref.ensures.value ∙ sym (products_polynomial c.f.inside.products.items)) (c.deref-2.ensures.value ∙ sym (products_polynomial c.g.inside.products.items))) c.add_products.ensures.added)
