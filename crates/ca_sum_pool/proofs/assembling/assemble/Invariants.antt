use Rattle.std.proofs.Common.{◌≡◌, length}
use Rattle.ca_sum_pool.proofs.Joins.{Putting}
use Rattle.ca_sum_pool.proofs.assembling.assemble.Given as goal

abbrev pub invariant-loop-owner : goal.invariant-loop-owner
invariant-loop-owner g l = record {
  put : Putting g.K.Sums.listed l.end l.initial.owners.items l.initial.thieves.items l.owners.items l.thieves.items l.parts.items;
  same : l.memory ≡ l.fn.memory;
}

abbrev pub decreases-loop-owner : goal.decreases-loop-owner
decreases-loop-owner g l = length l.owners.items
