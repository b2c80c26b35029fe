use Rattle.std.proofs.Common.{sym, ap, ◌∙◌}
use Rattle.std.specs.Ordering.{is_eq}
use Rattle.ca_order.proofs.Coming.{one_form}
use Rattle.ca_order.proofs.shortcuts.is_one.Goals as goal

pub returns : goal.returns
returns c = λ yes. one_form c.args.one.now c.args.other.now (ap is_eq (sym c.compare.ensures) ∙ sym c.is_eq.ensures ∙ yes)
