use Rattle.ca_shape_laws.proofs.Heads.{heads_stand}
use Rattle.ca_shape_laws.proofs.laws.heads_are_lines.Goals as goal

pub returns : goal.returns
returns c = heads_stand
