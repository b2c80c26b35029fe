use Rattle.std.proofs.Common.{◌≡◌, drop}
use Rattle.ca_order.specs.Rankings.{stands}
use Rattle.ca_order.proofs.rankings.stands.Given as goal

abbrev pub invariant-loop-other : goal.invariant-loop-other
invariant-loop-other l = stands l.rank l.ranks ≡ stands l.rank (drop l.other-index l.ranks)
