use Rattle.ca_parallel.proofs.Smaller.{smaller_is_parallel}
use Rattle.ca_parallel.proofs.laws.smaller_extents_are_parallel.Goals as goal

pub returns : goal.returns
returns c = smaller_is_parallel
