use Rattle.std.proofs.Common.{arith}
use Rattle.ca_norm.specs.Weights.{spread, share}
use Rattle.ca_norm.proofs.weigh.Measure.selection.Goals as goal

pub returns : goal.returns
returns c = λ x i g h.
    (omega (arith, c.over.ensures.spread, c.saturating_add.ensures, c.times-spread.ensures (spread i) (share x) h.0 g.3), omega (arith, c.over.ensures.nodes, c.beside.ensures.nodes, g.1, h.1), omega (arith, c.over.ensures.depth, c.beside.ensures.depth, g.2, h.2), omega (arith, c.over.ensures.share))
