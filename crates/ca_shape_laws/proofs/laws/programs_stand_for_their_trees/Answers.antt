use Rattle.ca_shape_laws.proofs.Shapes.{program_resolves}
use Rattle.ca_shape_laws.proofs.laws.programs_stand_for_their_trees.Goals as goal

pub returns : goal.returns
returns c = program_resolves
