use Rattle.ca_symbolic_laws.proofs.Parts.{starts_mean_the_object}
use Rattle.ca_symbolic_laws.proofs.laws.starts_mean_the_object.Goals as goal

pub returns : goal.returns
returns c = starts_mean_the_object
