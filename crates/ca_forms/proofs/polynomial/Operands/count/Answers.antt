use Rattle.std.proofs.Common.{◌≡◌, ap, sym, ◌∙◌, length, rules}
use Rattle.ca_forms.specs.Folds.{items_of}
use Rattle.ca_forms.proofs.Made.{items_back}
use Rattle.ca_forms.proofs.polynomial.Operands.count.Goals as goal

pub returns : goal.returns
returns c =
    let long : c.len.result ≡ length c.self.inside.items.items = search rules in
    long ∙ ap length (sym (items_back c.self.inside.items.items)) ∙ ap (λ z. length (items_of z)) c.self.view_is
