use Rattle.ca_norm.proofs.Values.{same_items}
use Rattle.ca_norm.proofs.laws.same_items.Goals as goal

pub returns : goal.returns
returns c = same_items
