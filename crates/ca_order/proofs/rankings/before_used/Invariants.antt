use Rattle.std.proofs.Common.{◌≡◌, drop}
use Rattle.ca_order.specs.Rankings.{before_used}
use Rattle.ca_order.proofs.rankings.before_used.Given as goal

abbrev pub invariant-loop-rank : goal.invariant-loop-rank
invariant-loop-rank l = before_used l.ranks l.ranks ≡ before_used l.ranks (drop l.rank-index l.ranks)
