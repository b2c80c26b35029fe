use Rattle.ca_order_laws.proofs.Complete.{loops_end}
use Rattle.ca_order_laws.proofs.laws.loop_sections_end_alike.Goals as goal

pub returns : goal.returns
returns c = loops_end
