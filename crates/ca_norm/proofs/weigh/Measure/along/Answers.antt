use Rattle.std.proofs.Common.{arith}
use Rattle.ca_norm.proofs.Shapes.{spreads_more, nodes_more, depth_more}
use Rattle.ca_norm.proofs.weigh.Measure.along.Goals as goal

pub returns : goal.returns
returns c = λ xs x g h.
    (omega (arith, c.beside.ensures.spread, g.0, h.0, spreads_more xs x), omega (arith, c.beside.ensures.nodes, g.1, h.1, nodes_more xs x), omega (arith, c.beside.ensures.depth, g.2, h.2, depth_more xs x))
