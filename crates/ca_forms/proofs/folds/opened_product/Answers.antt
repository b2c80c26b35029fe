use Rattle.std.proofs.Common.{ap, ◌∙◌}
use Rattle.ca_forms.specs.Folds.{part_made, monomial_made}
use Rattle.ca_forms.proofs.Made.{last_power}
use Rattle.ca_forms.proofs.folds.opened_product.Goals as goal

pub returns-in-Some : goal.returns-in-Some
returns-in-Some c = λ op s h. c.opened_part.ensures op s (ap (λ z. part_made op z.0) c.power.view_is
    ∙ last_power op c.monomial.inside.powers.items c.pop.new.self.items c.in-Some.power s c.in-Some.ensures.items (ap (monomial_made op) (c.monomial.view_is ∙ ap (λ z. z.0) c.product.view_is) ∙ h))
