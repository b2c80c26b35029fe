use Rattle.std.proofs.Common.{◌≡◌, drop}
use Rattle.ca_order.specs.Asked.{has_pair}
use Rattle.ca_order.proofs.asked.has_pair.Given as goal

abbrev pub invariant-loop-pair : goal.invariant-loop-pair
invariant-loop-pair l = has_pair l.first l.second l.pairs ≡ has_pair l.first l.second (drop l.pair-index l.pairs)
