use Rattle.std.proofs.Common.{◌≤◌, ◌-◌}
use Rattle.ca_pool.specs.Gathered.{AreAllNumbers}
use Rattle.ca_pool.proofs.spreading.all_numbers.Given as goal

abbrev pub invariant-loop-number : goal.invariant-loop-number
invariant-loop-number l = AreAllNumbers l.number l.numbers.items × (l.number ≤ l.objects)

abbrev pub decreases-loop-number : goal.decreases-loop-number
decreases-loop-number l = l.objects - l.number
