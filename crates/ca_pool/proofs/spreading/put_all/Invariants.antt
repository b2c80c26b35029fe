use Rattle.std.proofs.Common.{length}
use Rattle.ca_pool.proofs.Spread.{Putting}
use Rattle.ca_pool.proofs.spreading.put_all.Given as goal

abbrev pub invariant-loop-number : goal.invariant-loop-number
invariant-loop-number l = Putting l.initial.numbers.items l.initial.logs.items l.initial.all.items l.numbers.items l.logs.items l.all.items

abbrev pub decreases-loop-number : goal.decreases-loop-number
decreases-loop-number l = length l.numbers.items
