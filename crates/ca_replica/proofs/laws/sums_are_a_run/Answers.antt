use Rattle.ca_replica.proofs.Together.{sums_run}
use Rattle.ca_replica.proofs.laws.sums_are_a_run.Goals as goal

pub returns : goal.returns
returns c = sums_run
