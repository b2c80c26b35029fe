use Rattle.std.proofs.Common.{map, take}
use Rattle.ca_norm.specs.Terms.{shape}
use Rattle.ca_order.specs.Answers.{AllSame}
use Rattle.ca_order.specs.clauses.Seen.{AllKnown}
use Rattle.ca_order.proofs.Found.{items}
use Rattle.ca_order.proofs.answers.first_apart.Given as goal

abbrev pub invariant-loop-place : goal.invariant-loop-place
invariant-loop-place l = AllSame l.points (shape l.first) (shape l.second) (take l.place (map items l.orders)) × AllKnown l.points (shape l.first) (shape l.second) l.seen.items
