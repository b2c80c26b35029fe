use Rattle.ca_symbolic_laws.proofs.Parts.{values_are_meant}
use Rattle.ca_symbolic_laws.proofs.laws.values_are_meant.Goals as goal

pub returns : goal.returns
returns c = values_are_meant
