use Rattle.std.proofs.Common.{◌*◌, arith}
use Rattle.ca_norm.specs.Weights.{spread}
use Rattle.ca_norm.proofs.weigh.Measure.swept.Goals as goal

pub returns : goal.returns
returns c = λ x f t v g h i k.
    let sides = c.times.ensures (spread f) (spread t) h.0 i.0 in
    let share = c.times-share.ensures (spread f * spread t) (spread v) sides k.0 in
    (omega (arith, c.over.ensures.spread, c.beside-parts.ensures.spread, c.beside-2.ensures.spread, c.beside.ensures.spread, g.0, h.0, i.0, k.0), omega (arith, c.over.ensures.nodes, c.beside-parts.ensures.nodes, c.beside-2.ensures.nodes, c.beside.ensures.nodes, g.1, h.1, i.1, k.1), omega (arith, c.over.ensures.depth, c.beside-parts.ensures.depth, c.beside-2.ensures.depth, c.beside.ensures.depth, g.2, h.2, i.2, k.2), omega (arith, c.over.ensures.share, c.saturating_add.ensures, share, g.3))
