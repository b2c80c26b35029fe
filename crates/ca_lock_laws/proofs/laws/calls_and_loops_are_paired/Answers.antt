use Rattle.ca_lock_laws.proofs.Paired.{sites_paired}
use Rattle.ca_lock_laws.proofs.laws.calls_and_loops_are_paired.Goals as goal

pub returns : goal.returns
returns c = sites_paired
