use Rattle.ca_order.proofs.Alike.{joined_alike}
use Rattle.ca_order.proofs.laws.joined_alike.Goals as goal

pub returns : goal.returns
returns c = joined_alike
