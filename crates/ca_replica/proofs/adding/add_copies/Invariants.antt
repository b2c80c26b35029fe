use Rattle.std.proofs.Common.{◌≡◌, drop}
use Rattle.ca_replica.specs.Adding.{added}
use Rattle.ca_replica.proofs.adding.add_copies.Given as goal

abbrev pub invariant-copies : goal.invariant-copies
invariant-copies l = added l.written (drop l.copy-index l.copies) l.heap ≡ added l.written l.copies l.fn.heap
