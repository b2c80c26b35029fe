use Rattle.ca_order_laws.proofs.PendingRuns.{rounds}
use Rattle.ca_order_laws.proofs.laws.rounds_are_one_run.Goals as goal

pub returns : goal.returns
returns c = rounds
