use Rattle.ca_base.proofs.Reading.{placed_took}
use Rattle.ca_base.proofs.in_memory.MemSourceSource.read.Goals as goal

pub returns-clause-bytes : goal.returns-clause-bytes
returns-clause-bytes c =
    rw (c.read.ensures.left, c.read.ensures.placed, ← c.self.view_is) (placed_took _ _ _ c.read.ensures.count c.requires)
