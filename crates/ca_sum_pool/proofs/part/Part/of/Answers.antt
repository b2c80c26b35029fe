use Rattle.ca_sum_pool.proofs.Did.{sound_new}
use Rattle.ca_sum_pool.proofs.part.Part.of.Goals as goal

pub invariant_of-result : goal.invariant_of-result
invariant_of-result g c = (c.requires.left, sound_new g.N.Round.setting g.K.Sums.extent g.K.Sums.left c.args.owner.hand c.args.thieves c.args.replica.copies c.new.result.items _ c.requires.unused.0 c.requires.unused.1 c.requires.none c.new.ensures.items)
