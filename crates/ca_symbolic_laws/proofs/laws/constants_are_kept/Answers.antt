use Rattle.ca_symbolic_laws.proofs.Parts.{constants_are_kept}
use Rattle.ca_symbolic_laws.proofs.laws.constants_are_kept.Goals as goal

pub returns : goal.returns
returns c = constants_are_kept
