use Rattle.ca_order_laws.proofs.Ends.{finishes}
use Rattle.ca_order_laws.proofs.laws.any_run_can_be_completed.Goals as goal

pub returns : goal.returns
returns c = finishes
