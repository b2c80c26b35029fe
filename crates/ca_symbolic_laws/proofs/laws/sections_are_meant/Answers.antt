use Rattle.ca_symbolic_laws.proofs.Parts.{sections_are_meant}
use Rattle.ca_symbolic_laws.proofs.laws.sections_are_meant.Goals as goal

pub returns : goal.returns
returns c = sections_are_meant
