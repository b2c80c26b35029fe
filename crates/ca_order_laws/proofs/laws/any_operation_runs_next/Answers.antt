use Rattle.ca_order_laws.proofs.Ends.{diamond}
use Rattle.ca_order_laws.proofs.laws.any_operation_runs_next.Goals as goal

pub returns : goal.returns
returns c = diamond
