use Rattle.std.proofs.Common.{◌≡◌, ℕ, [], ◌++◌, ap, ◌∙◌, subst}
use Rattle.std.specs.Prelude.{OnOk}
use Rattle.ca_sums.specs.Sums.{Sum, AddsSum, scale}
use Rattle.ca_sums.proofs.Additions.{adds_both}
use Rattle.ca_sums.proofs.Entries.{gathered_is}
use Rattle.ca_forms.specs.Plain.{PlainMonomial}
use Rattle.ca_forms.specs.Lists.{polynomial_of, products_of}
use Rattle.ca_forms.specs.Compare.{monomial_cmp}
use Rattle.ca_forms.specs.Rules.{gathered}
use Rattle.ca_forms.proofs.Exact.{monomials_exact}
use Rattle.ca_forms.proofs.Gathered.{adds_factor}
use Rattle.ca_forms.proofs.Told.{chained, finished}
use Rattle.ca_forms.proofs.sums.with_multiple.Goals as goal

pub returns : goal.returns
returns c =
    let mid = c.add_owned-first.new.form.entries in
    let es = c.add_owned.new.form.entries in
    let k : ℕ = c.args.factor in
    let one : Sum PlainMonomial = products_of c.args.f in
    let other : Sum PlainMonomial = products_of c.args.g in
    let begun : OnOk c.add_owned-first.result (AddsSum [] mid 1 one) = subst (λ (z : Sum PlainMonomial). OnOk c.add_owned-first.result (AddsSum [] mid 1 z)) c.products_in.ensures (rw (← c.new-form.ensures.empty) c.add_owned-first.ensures.added) in
    let taken : OnOk c.add_owned.result (AddsSum mid es k other) = subst (λ (z : Sum PlainMonomial). OnOk c.add_owned.result (AddsSum mid es k z)) c.products_in-2.ensures c.add_owned.ensures.added in
    let all : OnOk c.and-both.result (AddsSum [] es 1 (one ++ scale k other)) = chained c.add_owned-first.result c.add_owned.result c.and-both.result (AddsSum [] mid 1 one) (AddsSum mid es k other) (AddsSum [] es 1 (one ++ scale k other)) (λ p q. adds_both [] mid es 1 one (scale k other) p (adds_factor mid es k other q)) begun taken c.and-both.ensures in
    finished c.and-both.result c.finish.result c.and.result (AddsSum [] es 1 (one ++ scale k other)) (λ s. s ≡ polynomial_of es) (λ s. s ≡ gathered (one ++ scale k other))
    (λ added s is. is ∙ ap polynomial_of (gathered_is monomial_cmp monomials_exact es (one ++ scale k other) c.finish.ensures.ordered c.add_owned.ensures.nonzero added)) all c.finish.ensures.value c.and.ensures
