use Rattle.std.proofs.Common.{◌≡◌, ◌≤◌, ◌-◌, map, take}
use Rattle.ca_beside.specs.Beside.{present}
use Rattle.ca_logs.specs.Touched.{fresh}
use Rattle.ca_pool.proofs.spreading.all_fresh.Given as goal

abbrev pub invariant-loop-number : goal.invariant-loop-number
invariant-loop-number l = (l.logs.items ≡ map fresh (take l.number (present l.frozen l.beside))) × (l.number ≤ l.objects)

abbrev pub decreases-loop-number : goal.decreases-loop-number
decreases-loop-number l = l.objects - l.number
