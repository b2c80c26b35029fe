use Rattle.ca_order_laws.proofs.SerialOrder.{depth_first}
use Rattle.ca_order_laws.proofs.laws.depth_first_is_a_complete_run.Goals as goal

pub returns : goal.returns
returns c = depth_first
