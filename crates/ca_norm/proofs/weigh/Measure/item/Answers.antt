use Rattle.std.proofs.Common.{arith}
use Rattle.ca_norm.proofs.weigh.Measure.item.Goals as goal

pub returns : goal.returns
returns c = λ sort cl f x i g h.
    (omega (arith, c.over.ensures.spread, c.saturating_add.ensures, c.beside-parts.ensures.spread, g.0, h.0), omega (arith, c.over.ensures.nodes, c.beside-parts.ensures.nodes, g.1, h.1), omega (arith, c.over.ensures.depth, c.beside-parts.ensures.depth, g.2, h.2), omega (arith, c.over.ensures.share))
