use Rattle.std.proofs.Common.{◌≡◌, IfOk, [], subst}
use Rattle.ca_sums.specs.Sums.{Sum, AddsSum, scale, collect}
use Rattle.ca_sums.specs.Products.{product}
use Rattle.ca_sums.proofs.Entries.{gathered_is}
use Rattle.ca_forms.specs.Plain.{PlainMonomial}
use Rattle.ca_forms.specs.Lists.{polynomial_of, products_of}
use Rattle.ca_forms.specs.Compare.{monomial_cmp}
use Rattle.ca_forms.specs.Products.{times}
use Rattle.ca_forms.proofs.Exact.{monomials_exact}
use Rattle.ca_forms.proofs.Gathered.{adds_factor}
use Rattle.ca_forms.proofs.sums.weighed.Goals as goal

pub returns : goal.returns
returns c =
    let es = c.add_product_of.new.form.entries in
    let ps : Sum PlainMonomial = product times (products_of c.args.f.now) (products_of c.args.g.now) in
    let all : Sum PlainMonomial = scale c.args.factor ps in
    let begun : AddsSum [] es c.args.factor ps = rw (← c.new-form.ensures.empty) c.in_ok-add_product_of.ensures.added in
    let e : es ≡ collect monomial_cmp all = gathered_is monomial_cmp monomials_exact es all c.finish.ensures.ordered c.in_ok-add_product_of.ensures.nonzero (adds_factor [] es c.args.factor ps begun) in
    subst (λ (z : Sum PlainMonomial). IfOk c.finish.result (λ f. f ≡ polynomial_of z)) e c.finish.ensures.value
