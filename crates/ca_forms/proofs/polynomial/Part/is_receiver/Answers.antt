use Rattle.std.proofs.Common.{sym, ap, ◌∙◌}
use Rattle.ca_forms.specs.Rules.{is_receiver_part}
use Rattle.ca_forms.proofs.Shapes.{no_receiver}
use Rattle.ca_forms.proofs.polynomial.Part.is_receiver.Goals as goal

pub returns-in_default : goal.returns-in_default
returns-in_default c = sym (no_receiver c.self.inside.node c.in_default.not-Variable) ∙ ap is_receiver_part c.self.view_is
