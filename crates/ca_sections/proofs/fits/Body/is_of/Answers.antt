use Rattle.std.proofs.Common.{sym, ◌∙◌}
use Rattle.ca_sections.proofs.Testing.{as_well}
use Rattle.ca_sections.proofs.fits.Body.is_of.Goals as goal

pub returns : goal.returns
returns c = as_well c.is_kind.result c.is_kind.ensures (λ e. sym c.kind_of.ensures ∙ e) (λ e. c.kind_of.ensures ∙ e)
