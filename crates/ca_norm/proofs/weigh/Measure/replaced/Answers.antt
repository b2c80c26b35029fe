use Rattle.std.proofs.Common.{arith}
use Rattle.ca_norm.specs.Weights.{spread}
use Rattle.ca_norm.proofs.weigh.Measure.replaced.Goals as goal

pub returns : goal.returns
returns c = λ x i v g h k.
    (omega (arith, c.over.ensures.spread, c.beside-parts.ensures.spread, c.beside.ensures.spread, g.0, h.0, k.0), omega (arith, c.over.ensures.nodes, c.beside-parts.ensures.nodes, c.beside.ensures.nodes, g.1, h.1, k.1), omega (arith, c.over.ensures.depth, c.beside-parts.ensures.depth, c.beside.ensures.depth, g.2, h.2, k.2), omega (arith, c.over.ensures.share, c.saturating_add.ensures, c.saturating_add-twice.ensures, c.times-share.ensures (spread i) (spread v) h.0 k.0, g.3))
