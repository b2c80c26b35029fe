use Rattle.ca_norm.proofs.Values.{items_mean}
use Rattle.ca_norm.proofs.laws.items_mean.Goals as goal

pub returns : goal.returns
returns c = items_mean
