use Rattle.std.proofs.Common.{◌≡◌, map, take}
use Rattle.ca_order.specs.Rankings.{points_and_ranks}
use Rattle.ca_order.proofs.Listing.{items, with_ranks}
use Rattle.ca_order.proofs.rankings.rankings.Given as goal

abbrev pub invariant-loop-list : goal.invariant-loop-list
invariant-loop-list l = map points_and_ranks l.out.items ≡ map (with_ranks l.points) (map items (take l.list-index l.list-items))
