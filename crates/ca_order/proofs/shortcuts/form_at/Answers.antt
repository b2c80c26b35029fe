use Rattle.std.proofs.Common.{sym, ap, ◌∙◌}
use Rattle.ca_order.specs.Points.{form_of}
use Rattle.ca_order.proofs.Meant.{point_is}
use Rattle.ca_order.proofs.shortcuts.form_at.Goals as goal

pub returns-then-is_at : goal.returns-then-is_at
returns-then-is_at c = c.own_form.ensures ∙ ap form_of (sym (point_is c.args.point c.place-item.result.0 (sym c.is_at.ensures ∙ c.if-is_at.true)))
