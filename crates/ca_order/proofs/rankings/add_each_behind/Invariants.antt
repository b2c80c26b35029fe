use Rattle.std.proofs.Common.{◌≡◌, ◌++◌, map, take}
use Rattle.ca_order.specs.Rankings.{each_behind}
use Rattle.ca_order.proofs.Listing.{items}
use Rattle.ca_order.proofs.rankings.add_each_behind.Given as goal

abbrev pub invariant-loop-list : goal.invariant-loop-list
invariant-loop-list l = map items l.out.items ≡ map items l.fn.out.items ++ each_behind l.rank (map items (take l.list-index l.lists))
