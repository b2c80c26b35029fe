use Rattle.std.proofs.Common.{◌≡◌, ap, ◌∙◌, ◌==◌, length, rules}
use Rattle.ca_forms.specs.Rules.{is_one}
use Rattle.ca_forms.proofs.Constants.{one_of}
use Rattle.ca_forms.proofs.polynomial.Monomial.is_one.Goals as goal

pub returns : goal.returns
returns c =
    let long : c.len.result ≡ length c.self.inside.powers.items = search rules in
    ap (λ n. n == 0) long ∙ one_of c.self.inside.powers.items ∙ ap is_one c.self.view_is
