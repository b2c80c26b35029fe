use Rattle.std.proofs.Common.{◌≡◌, map, take}
use Rattle.std.specs.List.{filter}
use Rattle.ca_order.specs.Rankings.{is_ranking}
use Rattle.ca_order.proofs.Listing.{items}
use Rattle.ca_order.proofs.rankings.kept.Given as goal

abbrev pub invariant-loop-list : goal.invariant-loop-list
invariant-loop-list l = map items l.out.items ≡ filter (is_ranking l.points) (map items (take l.list-index l.lists))
