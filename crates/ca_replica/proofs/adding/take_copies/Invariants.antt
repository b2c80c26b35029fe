use Rattle.std.proofs.Common.{length}
use Rattle.ca_beside.specs.Beside.{present}
use Rattle.ca_replica.specs.Adding.{added}
use Rattle.ca_replica.proofs.Taking.{Leaves}
use Rattle.ca_replica.proofs.adding.take_copies.Given as goal

abbrev pub invariant-copies : goal.invariant-copies
invariant-copies l = Leaves l.written l.heap (added l.written l.fn.copies.items (present l.heap l.fn.beside)) l.left.items (present l.heap l.beside)

abbrev pub decreases-copies : goal.decreases-copies
decreases-copies l = length l.left.items
