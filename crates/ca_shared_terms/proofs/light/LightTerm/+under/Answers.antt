use Rattle.std.proofs.Common.{rules, ◌≡◌, ◌-◌, ◌*◌, ◌%◌, ◌^◌, ◌∙◌, IfOk, OnOk, [], ap, sym, subst}
use Rattle.ca_sums.specs.Sums.{Sum, AddsSum, collect}
use Rattle.ca_sums.proofs.Additions.{adds_both}
use Rattle.ca_sums.proofs.Entries.{gathered_is}
use Rattle.ca_forms.specs.Plain.{PlainMonomial}
use Rattle.ca_forms.specs.Lists.{polynomial_of}
use Rattle.ca_forms.specs.Compare.{monomial_cmp}
use Rattle.ca_forms.specs.Rules.{minus, gathered}
use Rattle.ca_forms.proofs.Exact.{monomials_exact}
use Rattle.ca_forms.proofs.Told.{on_ok}
use Rattle.ca_forms.proofs.Gathered.{adds_chosen, adds_scaled}
use Rattle.ca_norm.specs.Terms.{PlainTerm, add, sub, choose}
use Rattle.ca_norm.specs.Forms.{expand}
use Rattle.ca_shared_terms.specs.Nodes.{node_of}
use Rattle.ca_shared_terms.proofs.Gathered.{adds_own}
use Rattle.ca_shared_terms.proofs.light.LightTerm.+under.Goals as goal

pub add_under-returns-in_ok-add_under-in-Add-clause-added : goal.add_under-returns-in_ok-add_under-in-Add-clause-added
add_under-returns-in_ok-add_under-in-Add-clause-added t c =
    let is : add c.in-Add.a c.in-Add.b ≡ c.args.self.now = ap node_of (sym c.in-Add.is ∙ c.deref.ensures) ∙ c.self.view_is in
    subst (λ (z : PlainTerm). OnOk c.add_under-in-Add.result (AddsSum c.args.form.now.entries c.add_under-in-Add.new.form.entries c.args.factor (expand z))) is (on_ok c.add_under-in-Add.result _ _
    (adds_both c.args.form.now.entries c.add_under.new.form.entries c.add_under-in-Add.new.form.entries c.args.factor (expand c.in-Add.a) (expand c.in-Add.b) c.in_ok-add_under-in-Add.ensures.added)
    c.add_under-in-Add.ensures.added)

pub add_under-returns-in_ok-add_under-in-Sub-clause-added : goal.add_under-returns-in_ok-add_under-in-Sub-clause-added
add_under-returns-in_ok-add_under-in-Sub-clause-added t c =
    let is : sub c.in-Sub.a c.in-Sub.b ≡ c.args.self.now = ap node_of (sym c.in-Sub.is ∙ c.deref.ensures) ∙ c.self.view_is in
    let b : Sum PlainMonomial = expand c.in-Sub.b in
    let mid = c.add_under-in-Sub.new.form.entries in
    let new = c.add_under-in-Sub-2.new.form.entries in
    subst (λ (z : PlainTerm). OnOk c.add_under-in-Sub-2.result (AddsSum c.args.form.now.entries new c.args.factor (expand z))) is (on_ok c.add_under-in-Sub-2.result _ _
    (λ (added : AddsSum mid new ((c.args.factor * (2 ^ 64 - 1)) % (2 ^ 64)) b). adds_both c.args.form.now.entries mid new c.args.factor (expand c.in-Sub.a) (minus b) c.in_ok-add_under-in-Sub.ensures.added (adds_scaled mid new c.args.factor (2 ^ 64 - 1) b added))
    c.add_under-in-Sub-2.ensures.added)

pub add_under-returns-in_ok-own-in_default-clause-added : goal.add_under-returns-in_ok-own-in_default-clause-added
add_under-returns-in_ok-own-in_default-clause-added t c =
    on_ok c.add_polynomial.result _ _
    (adds_own c.args.form.now.entries c.add_polynomial.new.form.entries c.args.factor (expand c.args.self.now))
    (rw (← c.in_ok-own-in_default.ensures) c.add_polynomial.ensures.added)

pub add_choice_under-returns-in_ok-f-in-Choose-clause-added : goal.add_choice_under-returns-in_ok-f-in-Choose-clause-added
add_choice_under-returns-in_ok-f-in-Choose-clause-added t c =
    let is : choose c.in-Choose.c c.in-Choose.a c.in-Choose.b ≡ c.args.self.now = ap node_of (sym c.in-Choose.is ∙ c.deref.ensures) ∙ c.self.view_is in
    let condition : c.in_ok-f-in-Choose.f ≡ gathered (expand c.in-Choose.c) = search rules in
    let first : c.in_ok-f-in-Choose.g ≡ gathered (expand c.in-Choose.a) = search rules in
    let second : c.in_ok-f-in-Choose.h ≡ gathered (expand c.in-Choose.b) = search rules in
    subst (λ (z : PlainTerm). OnOk c.add_chosen.result (AddsSum c.args.form.now.entries c.add_chosen.new.form.entries c.args.factor (expand z))) is (on_ok c.add_chosen.result _ _
    (adds_chosen c.args.form.now.entries c.add_chosen.new.form.entries c.args.factor (expand c.in-Choose.c) (expand c.in-Choose.a) (expand c.in-Choose.b))
    (rw (← condition, ← first, ← second) c.add_chosen.ensures.added))

pub polynomial_under-returns : goal.polynomial_under-returns
polynomial_under-returns t c =
    let es = c.add_under.new.form.entries in
    let added : AddsSum [] es 1 (expand c.args.self.now) = rw (← c.new-form.ensures.empty) c.in_ok-add_under.ensures.added in
    let e : es ≡ collect monomial_cmp (expand c.args.self.now) = gathered_is monomial_cmp monomials_exact es (expand c.args.self.now) c.finish.ensures.ordered c.in_ok-add_under.ensures.nonzero added in
    subst (λ (z : Sum PlainMonomial). IfOk c.finish.result (λ f. f ≡ polynomial_of z)) e c.finish.ensures.value
