use Rattle.ca_plain_laws.proofs.Orders.{plain_pairs_look_same}
use Rattle.ca_plain_laws.proofs.laws.plain_pairs_look_same.Goals as goal

pub returns : goal.returns
returns c = plain_pairs_look_same
