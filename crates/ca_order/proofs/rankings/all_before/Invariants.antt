use Rattle.std.proofs.Common.{◌≡◌, ◌-◌, ◌≤◌, map}
use Rattle.ca_order.specs.Rankings.{all_before}
use Rattle.ca_order.proofs.Listing.{items}
use Rattle.ca_order.proofs.rankings.all_before.Given as goal

abbrev pub invariant-loop-rank : goal.invariant-loop-rank
invariant-loop-rank l = (l.rank ≤ l.count) × (map items l.out.items ≡ all_before l.rank (map items l.lists))

abbrev pub decreases-loop-rank : goal.decreases-loop-rank
decreases-loop-rank l = l.count - l.rank
