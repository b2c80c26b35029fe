use Rattle.std.proofs.Common.{refl}
use Rattle.ca_run.proofs.in_place.left_of.Goals as goal

pub returns-in-Ends : goal.returns-in-Ends
returns-in-Ends c = rw c.in-Ends.is refl

pub returns-in-Traps : goal.returns-in-Traps
returns-in-Traps c = rw c.in-Traps.is refl

pub returns-in-Spends : goal.returns-in-Spends
returns-in-Spends c = rw c.in-Spends.is refl
