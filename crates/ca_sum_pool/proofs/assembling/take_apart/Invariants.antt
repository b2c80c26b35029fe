use Rattle.std.proofs.Common.{length}
use Rattle.ca_sum_pool.specs.Rounded.{copies_in}
use Rattle.ca_sum_pool.proofs.Joins.{Tearing}
use Rattle.ca_sum_pool.proofs.assembling.take_apart.Given as goal

abbrev pub invariant-loop-part : goal.invariant-loop-part
invariant-loop-part g l = Tearing g.N.Round.setting g.K.Sums.extent g.K.Sums.left l.initial.parts.items l.parts.items l.apart.owners.items l.apart.thieves.items (copies_in l.apart.replicas.items) l.apart.stuck.items l.apart.count l.apart.steps l.initial.apart.rest.items l.apart.rest.items

abbrev pub decreases-loop-part : goal.decreases-loop-part
decreases-loop-part g l = length l.parts.items
