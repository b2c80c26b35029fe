use Rattle.ca_order_laws.proofs.Complete.{runs_end}
use Rattle.ca_order_laws.proofs.laws.serial_runs_end_alike.Goals as goal

pub returns : goal.returns
returns c = runs_end
