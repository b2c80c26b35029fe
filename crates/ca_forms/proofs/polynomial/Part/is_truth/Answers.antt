use Rattle.std.proofs.Common.{sym, ap, ◌∙◌}
use Rattle.ca_forms.specs.Seen.{part_of}
use Rattle.ca_forms.specs.Products.{is_truth}
use Rattle.ca_forms.proofs.Shapes.{truth_over}
use Rattle.ca_forms.proofs.polynomial.Part.is_truth.Goals as goal

pub returns-in-Over : goal.returns-in-Over
returns-in-Over c = c.is_truth.ensures ∙ (truth_over c.in-Over.f c.in-Over.field-1 ∙ ap is_truth (ap part_of (sym c.in-Over.is) ∙ c.self.view_is))
