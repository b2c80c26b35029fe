use Rattle.ca_sum_pool.proofs.Did.{sound_short}
use Rattle.ca_sum_pool.proofs.part.Part.run.Goals as goal

pub invariant_of-self : goal.invariant_of-self
invariant_of-self g c = let z = c.self.inside in
    (c.self.invariant.0, sound_short g.N.Round.setting g.K.Sums.extent g.K.Sums.left z.owner.hand z.thieves z.replica.copies z.share.items _ _ z.stuck z.count z.steps z.short c.self.invariant.1)
