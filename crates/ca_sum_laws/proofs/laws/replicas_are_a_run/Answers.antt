use Rattle.ca_sum_laws.proofs.FromHeap.{from_any_run}
use Rattle.ca_sum_laws.proofs.laws.replicas_are_a_run.Goals as goal

pub returns : goal.returns
returns c = from_any_run
