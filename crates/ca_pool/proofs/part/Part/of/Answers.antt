use Rattle.ca_pool.proofs.Assembles.{sound_new}
use Rattle.ca_pool.proofs.part.Part.of.Goals as goal

pub invariant_of-result : goal.invariant_of-result
invariant_of-result g c = (c.requires.left, sound_new g.N.Round.setting g.K.Work.cells g.K.Work.left c.args.owner.hand c.args.thieves c.args.seat c.new.result.items c.requires.unused.0 c.requires.unused.1 c.requires.seat.0 c.requires.seat.1 c.requires.seat.2 c.new.ensures.items)
