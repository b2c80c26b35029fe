use Rattle.ca_symbolic.proofs.Fewer.{loops_are_fewer}
use Rattle.ca_symbolic.proofs.laws.loops_are_fewer.Goals as goal

pub returns : goal.returns
returns c = loops_are_fewer
