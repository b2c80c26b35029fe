use Rattle.std.proofs.Common.{length}
use Rattle.ca_beside.specs.Beside.{present}
use Rattle.ca_replica.specs.Together.{added_one_by_one}
use Rattle.ca_sum_pool.specs.Rounded.{copies_in}
use Rattle.ca_workers.proofs.Moving.{Leaves}
use Rattle.ca_workers.proofs.storing.store_sums.Given as goal

abbrev pub invariant-replicas : goal.invariant-replicas
invariant-replicas l = Leaves l.extent.written l.frozen (added_one_by_one l.extent.written (copies_in l.fn.replicas.items) (present l.frozen l.fn.beside)) l.left.items (present l.frozen l.beside)

abbrev pub decreases-replicas : goal.decreases-replicas
decreases-replicas l = length l.left.items
