use Rattle.ca_replica.proofs.Beginning.{no_sums_stand}
use Rattle.ca_replica.proofs.laws.no_sums_stand.Goals as goal

pub returns : goal.returns
returns c = no_sums_stand
