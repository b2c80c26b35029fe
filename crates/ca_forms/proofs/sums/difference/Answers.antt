use Rattle.std.proofs.Common.{◌≡◌, [], ◌++◌, ◌-◌, ◌^◌, ap, ◌∙◌}
use Rattle.std.specs.Prelude.{OnOk}
use Rattle.ca_sums.specs.Sums.{Sum, AddsSum}
use Rattle.ca_sums.proofs.Additions.{adds_both}
use Rattle.ca_sums.proofs.Entries.{gathered_is}
use Rattle.ca_forms.specs.Plain.{PlainMonomial}
use Rattle.ca_forms.specs.Lists.{polynomial_of, products_of}
use Rattle.ca_forms.specs.Compare.{monomial_cmp}
use Rattle.ca_forms.specs.Rules.{gathered, minus}
use Rattle.ca_forms.proofs.Exact.{monomials_exact}
use Rattle.ca_forms.proofs.Gathered.{adds_minus_sum}
use Rattle.ca_forms.proofs.Told.{chained, finished}
use Rattle.ca_forms.proofs.sums.difference.Goals as goal

pub returns : goal.returns
returns c =
    let mid = c.add_polynomial-first.new.form.entries in
    let es = c.add_polynomial.new.form.entries in
    let one : Sum PlainMonomial = products_of c.args.f.now in
    let other : Sum PlainMonomial = products_of c.args.g.now in
    let begun : OnOk c.add_polynomial-first.result (AddsSum [] mid 1 one) = rw (← c.new-form.ensures.empty) c.add_polynomial-first.ensures.added in
    let all : OnOk c.and-both.result (AddsSum [] es 1 (one ++ minus other)) = chained c.add_polynomial-first.result c.add_polynomial.result c.and-both.result (AddsSum [] mid 1 one) (AddsSum mid es (2 ^ 64 - 1) other) (AddsSum [] es 1 (one ++ minus other)) (λ p q. adds_both [] mid es 1 one (minus other) p (adds_minus_sum mid es other q)) begun c.add_polynomial.ensures.added c.and-both.ensures in
    finished c.and-both.result c.finish.result c.and.result (AddsSum [] es 1 (one ++ minus other)) (λ s. s ≡ polynomial_of es) (λ s. s ≡ gathered (one ++ minus other))
    (λ added s is. is ∙ ap polynomial_of (gathered_is monomial_cmp monomials_exact es (one ++ minus other) c.finish.ensures.ordered c.add_polynomial.ensures.nonzero added)) all c.finish.ensures.value c.and.ensures
