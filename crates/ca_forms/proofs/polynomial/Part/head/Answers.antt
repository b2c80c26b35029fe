use Rattle.std.proofs.Common.{sym, ap, ◌∙◌}
use Rattle.ca_forms.specs.Seen.{part_of}
use Rattle.ca_forms.specs.clauses.Heads.{head}
use Rattle.ca_forms.proofs.Heads.{head_over}
use Rattle.ca_forms.proofs.polynomial.Part.head.Goals as goal

pub returns-in-Over : goal.returns-in-Over
returns-in-Over c = c.head.ensures ∙ (head_over c.in-Over.f c.in-Over.field-1 ∙ ap head (ap part_of (sym c.in-Over.is) ∙ c.self.view_is))
