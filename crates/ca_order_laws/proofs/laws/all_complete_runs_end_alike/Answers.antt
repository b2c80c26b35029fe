use Rattle.ca_order_laws.proofs.Ends.{one_end}
use Rattle.ca_order_laws.proofs.laws.all_complete_runs_end_alike.Goals as goal

pub returns : goal.returns
returns c = one_end
