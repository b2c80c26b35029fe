use Rattle.ca_code_laws.proofs.FitEnd.{knows_section}
use Rattle.ca_code_laws.proofs.laws.fitting_bodies_know_their_sections.Goals as goal

pub returns : goal.returns
returns c = knows_section
