use Rattle.std.proofs.Common.{◌≡◌, ap, sym, ◌∙◌, length, rules}
use Rattle.ca_forms.specs.Lists.{powers_of}
use Rattle.ca_forms.proofs.Lists.{powers_monomial}
use Rattle.ca_forms.proofs.polynomial.Monomial.count.Goals as goal

pub returns : goal.returns
returns c =
    let long : c.len.result ≡ length c.self.inside.powers.items = search rules in
    long ∙ ap length (sym (powers_monomial c.self.inside.powers.items)) ∙ ap (λ m. length (powers_of m)) c.self.view_is
