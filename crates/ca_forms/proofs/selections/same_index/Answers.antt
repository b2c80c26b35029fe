use Rattle.std.proofs.Common.{rules, ◌≡◌, IfOk, [], subst}
use Rattle.ca_sums.specs.Sums.{Sum, AddsSum, collect}
use Rattle.ca_sums.proofs.Entries.{gathered_is}
use Rattle.ca_forms.specs.Plain.{PlainMonomial}
use Rattle.ca_forms.specs.Lists.{polynomial_of}
use Rattle.ca_forms.specs.Compare.{monomial_cmp}
use Rattle.ca_forms.specs.ArrayRules.{same_index}
use Rattle.ca_forms.proofs.Exact.{monomials_exact}
use Rattle.ca_forms.proofs.selections.same_index.Goals as goal

pub returns : goal.returns
returns c =
    let es = c.add_same.new.form.entries in
    let ps : Sum PlainMonomial = same_index c.args.i.now c.args.j.now in
    let first : c.in_ok-i.i ≡ c.args.i.now = search rules in
    let second : c.in_ok-i.j ≡ c.args.j.now = search rules in
    let added : AddsSum [] es 1 ps = rw (← c.new-form.ensures.empty, ← first, ← second) c.in_ok-add_same.ensures.added in
    let e : es ≡ collect monomial_cmp ps = gathered_is monomial_cmp monomials_exact es ps c.finish.ensures.ordered c.in_ok-add_same.ensures.nonzero added in
    subst (λ (z : Sum PlainMonomial). IfOk c.finish.result (λ f. f ≡ polynomial_of z)) e c.finish.ensures.value
