use Rattle.std.proofs.Common.{◌≡◌, drop}
use Rattle.ca_order.specs.Under.{first_of_rank}
use Rattle.ca_order.proofs.places.first_of_rank.Given as goal

abbrev pub invariant-loop-place : goal.invariant-loop-place
invariant-loop-place l = first_of_rank l.places l.point l.rank ≡ first_of_rank (drop l.place-index l.places) l.point l.rank
