use Rattle.std.proofs.Common.{◌≡◌, drop}
use Rattle.ca_order.specs.Under.{rank_of}
use Rattle.ca_order.proofs.places.rank_of.Given as goal

abbrev pub invariant-loop-place : goal.invariant-loop-place
invariant-loop-place l = rank_of l.places l.point ≡ rank_of (drop l.place-index l.places) l.point
