use Rattle.ca_sections.proofs.Testing.{as_well, both_find}
use Rattle.ca_sections.proofs.fits.Body.invokes_on.Goals as goal

pub returns : goal.returns
returns c =
    as_well _ (both_find _ _ (both_find _ _ c.invokes.ensures c.reads.ensures) c.expressions.ensures) (λ h. (h.0.1.0, h.0.0.0, h.0.0.1, h.0.1.1, h.1)) (λ h. (((h.1, h.2), (h.0, h.3)), h.4))
