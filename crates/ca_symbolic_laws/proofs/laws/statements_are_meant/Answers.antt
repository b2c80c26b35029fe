use Rattle.ca_symbolic_laws.proofs.Parts.{statements_are_meant}
use Rattle.ca_symbolic_laws.proofs.laws.statements_are_meant.Goals as goal

pub returns : goal.returns
returns c = statements_are_meant
