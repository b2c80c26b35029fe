use Rattle.ca_order_laws.proofs.Complete.{sections_end}
use Rattle.ca_order_laws.proofs.laws.sections_end_alike.Goals as goal

pub returns : goal.returns
returns c = sections_end
