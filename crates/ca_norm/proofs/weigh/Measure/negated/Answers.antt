use Rattle.std.proofs.Common.{arith}
use Rattle.ca_norm.proofs.weigh.Measure.negated.Goals as goal

pub returns : goal.returns
returns c = λ x g.
    (omega (arith, c.over.ensures.spread, g.0), omega (arith, c.over.ensures.nodes, g.1), omega (arith, c.over.ensures.depth, g.2), omega (arith, c.over.ensures.share))
