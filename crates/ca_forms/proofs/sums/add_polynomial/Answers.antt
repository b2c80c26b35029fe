use Rattle.std.proofs.Common.{OnOk, sym, ◌∙◌, subst}
use Rattle.ca_sums.specs.Sums.{Sum, AddsSum}
use Rattle.ca_forms.specs.Plain.{PlainMonomial}
use Rattle.ca_forms.proofs.Gathered.{products_polynomial}
use Rattle.ca_forms.proofs.sums.add_polynomial.Goals as goal

pub returns-clause-added : goal.returns-clause-added
returns-clause-added c =
    rw (← c.f.view_is) (subst (λ (z : Sum PlainMonomial). OnOk c.add_all.result (AddsSum c.args.form.now.entries c.add_all.new.form.entries c.args.factor z)) (c.deref.ensures.value ∙ sym (products_polynomial c.f.inside.products.items)) c.add_all.ensures.added)
