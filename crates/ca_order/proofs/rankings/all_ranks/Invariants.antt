use Rattle.std.proofs.Common.{◌≡◌, ◌-◌, ◌≤◌, map}
use Rattle.ca_order.specs.Rankings.{all_ranks}
use Rattle.ca_order.proofs.Listing.{items}
use Rattle.ca_order.proofs.rankings.all_ranks.Given as goal

abbrev pub invariant-loop-done : goal.invariant-loop-done
invariant-loop-done l = (l.done ≤ l.long) × (map items l.lists.items ≡ all_ranks l.done l.count)

abbrev pub decreases-loop-done : goal.decreases-loop-done
decreases-loop-done l = l.long - l.done
