use Rattle.std.proofs.Common.{◌≡◌, ◌-◌, ◌++◌, length, drop}
use Rattle.ca_order.specs.Rankings.{ranked}
use Rattle.ca_order.proofs.places.order_of.Given as goal

abbrev pub invariant-loop-at : goal.invariant-loop-at
invariant-loop-at l = ranked l.points l.ranks ≡ l.items.items ++ ranked (drop l.at l.points) (drop l.at l.ranks)

abbrev pub decreases-loop-at : goal.decreases-loop-at
decreases-loop-at l = length l.points - l.at
