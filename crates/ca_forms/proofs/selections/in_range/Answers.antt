use Rattle.std.proofs.Common.{rules, ◌≡◌, IfOk, [], subst}
use Rattle.ca_sums.specs.Sums.{Sum, AddsSum, collect}
use Rattle.ca_sums.specs.Products.{product}
use Rattle.ca_sums.proofs.Entries.{gathered_is}
use Rattle.ca_forms.specs.Plain.{PlainMonomial}
use Rattle.ca_forms.specs.Lists.{polynomial_of}
use Rattle.ca_forms.specs.Compare.{monomial_cmp}
use Rattle.ca_forms.specs.Products.{times}
use Rattle.ca_forms.specs.Rules.{gathered, negated, less_sum}
use Rattle.ca_forms.proofs.Exact.{monomials_exact}
use Rattle.ca_forms.proofs.Gathered.{adds_gathered}
use Rattle.ca_forms.proofs.selections.in_range.Goals as goal

pub returns : goal.returns
returns c =
    let es = c.add_product_of.new.form.entries in
    let ps : Sum PlainMonomial = negated (less_sum c.args.index.now c.args.from.now) in
    let qs : Sum PlainMonomial = less_sum c.args.index.now c.args.to.now in
    let first : c.in_ok-low.low ≡ gathered ps = search rules in
    let second : c.in_ok-low.high ≡ gathered qs = search rules in
    let added : AddsSum [] es 1 (product times ps qs) = adds_gathered [] es 1 ps qs (rw (← c.new-form.ensures.empty, ← first, ← second) c.in_ok-add_product_of.ensures.added) in
    let e : es ≡ collect monomial_cmp (product times ps qs) = gathered_is monomial_cmp monomials_exact es (product times ps qs) c.finish.ensures.ordered c.in_ok-add_product_of.ensures.nonzero added in
    subst (λ (z : Sum PlainMonomial). IfOk c.finish.result (λ f. f ≡ polynomial_of z)) e c.finish.ensures.value
