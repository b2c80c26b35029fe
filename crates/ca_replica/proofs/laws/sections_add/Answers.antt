use Rattle.ca_replica.proofs.Applying.{sections_add}
use Rattle.ca_replica.proofs.laws.sections_add.Goals as goal

pub returns : goal.returns
returns c = sections_add
