use Rattle.std.proofs.Common.{sym, ap, ◌∙◌}
use Rattle.ca_forms.specs.Folds.{items_of}
use Rattle.ca_forms.proofs.Made.{items_back}
use Rattle.ca_forms.proofs.polynomial.Operands.into_items.Goals as goal

pub returns : goal.returns
returns c = record { items = sym (items_back c.self.inside.items.items) ∙ ap items_of c.self.view_is; rising = c.self.invariant }
