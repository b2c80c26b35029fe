use Rattle.ca_replica.proofs.Sums.{adding_merges}
use Rattle.ca_replica.proofs.laws.adding_is_merging.Goals as goal

pub returns : goal.returns
returns c = adding_merges
