use Rattle.std.proofs.Common.{arith}
use Rattle.ca_norm.specs.Weights.{spread}
use Rattle.ca_norm.proofs.weigh.Measure.product.Goals as goal

pub returns : goal.returns
returns c = λ x y g h.
    (omega (arith, c.over.ensures.spread, c.times.ensures (spread x) (spread y) g.0 h.0), omega (arith, c.over.ensures.nodes, c.beside.ensures.nodes, g.1, h.1), omega (arith, c.over.ensures.depth, c.beside.ensures.depth, g.2, h.2), omega (arith, c.over.ensures.share))
