use Rattle.ca_order.proofs.Alike.{alike_orders}
use Rattle.ca_order.proofs.laws.alike_orders.Goals as goal

pub returns : goal.returns
returns c = alike_orders
