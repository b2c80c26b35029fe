use Rattle.std.proofs.Common.{◌≡◌, ap, ◌∙◌, ◌==◌, length, rules}
use Rattle.ca_forms.specs.clauses.Places.{is_nothing}
use Rattle.ca_forms.proofs.Constants.{is_none}
use Rattle.ca_forms.proofs.polynomial.Polynomial.is_nothing.Goals as goal

pub returns : goal.returns
returns c =
    let long : c.len.result ≡ length c.self.inside.products.items = search rules in
    ap (λ n. n == 0) long ∙ is_none c.self.inside.products.items ∙ ap is_nothing c.self.view_is
