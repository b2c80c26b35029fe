use Rattle.ca_replica.proofs.Once.{rising_once}
use Rattle.ca_replica.proofs.laws.rising_lists_hold_each_once.Goals as goal

pub returns : goal.returns
returns c = rising_once
