use Rattle.std.proofs.Common.{◌≡◌, drop}
use Rattle.ca_pool.specs.Gathered.{loose_stop}
use Rattle.ca_pool.proofs.gathering.first_loose.Given as goal

abbrev pub invariant-loop-at : goal.invariant-loop-at
invariant-loop-at l = loose_stop (drop l.at l.loose) ≡ loose_stop l.loose
