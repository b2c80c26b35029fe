use Rattle.std.proofs.Common.{sym, ap, ap₂, ◌∙◌}
use Rattle.ca_forms.specs.Lists.{monomial_of}
use Rattle.ca_forms.specs.Products.{merge}
use Rattle.ca_forms.proofs.Lists.{powers_monomial}
use Rattle.ca_forms.proofs.polynomial.Monomial.times.Goals as goal

pub returns : goal.returns
returns c =
    rw (← c.self.view_is, ← c.other.view_is) (ap monomial_of (c.in_ok-powers.ensures ∙ ap₂ merge (c.deref.ensures.value ∙ sym (powers_monomial c.self.inside.powers.items)) (c.deref-2.ensures.value ∙ sym (powers_monomial c.other.inside.powers.items))))
