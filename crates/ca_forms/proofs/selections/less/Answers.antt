use Rattle.std.proofs.Common.{rules, ◌≡◌, IfOk, [], subst}
use Rattle.ca_sums.specs.Sums.{Sum, AddsSum, collect}
use Rattle.ca_sums.proofs.Entries.{gathered_is}
use Rattle.ca_forms.specs.Plain.{PlainMonomial}
use Rattle.ca_forms.specs.Lists.{polynomial_of}
use Rattle.ca_forms.specs.Compare.{monomial_cmp}
use Rattle.ca_forms.specs.Rules.{less_sum}
use Rattle.ca_forms.proofs.Exact.{monomials_exact}
use Rattle.ca_forms.proofs.selections.less.Goals as goal

pub returns : goal.returns
returns c =
    let es = c.add_less.new.form.entries in
    let ps : Sum PlainMonomial = less_sum c.args.f.now c.args.g.now in
    let first : c.in_ok-f.f ≡ c.args.f.now = search rules in
    let second : c.in_ok-f.g ≡ c.args.g.now = search rules in
    let added : AddsSum [] es 1 ps = rw (← c.new-form.ensures.empty, ← first, ← second) c.in_ok-add_less.ensures.added in
    let e : es ≡ collect monomial_cmp ps = gathered_is monomial_cmp monomials_exact es ps c.finish.ensures.ordered c.in_ok-add_less.ensures.nonzero added in
    subst (λ (z : Sum PlainMonomial). IfOk c.finish.result (λ f. f ≡ polynomial_of z)) e c.finish.ensures.value
