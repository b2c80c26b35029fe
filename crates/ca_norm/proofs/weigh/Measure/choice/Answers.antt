use Rattle.std.proofs.Common.{◌+◌, arith}
use Rattle.ca_norm.specs.Weights.{spread, share}
use Rattle.ca_norm.specs.Measures.{Counts}
use Rattle.ca_norm.proofs.weigh.Measure.choice.Goals as goal

pub returns : goal.returns
returns c = λ t x y g h k.
    let sums : Counts c.saturating_add.result (spread x + spread y) = omega (arith, c.saturating_add.ensures, h.0, k.0) in
    let shares : Counts c.saturating_add-2.result (share x + share y) = omega (arith, c.saturating_add-2.ensures, h.3, k.3) in (
      omega (arith, c.over.ensures.spread, c.saturating_add-spread.ensures, c.times-sides.ensures (spread t) (spread x + spread y) g.0 sums, k.0),
      omega (arith, c.over.ensures.nodes, c.beside-parts.ensures.nodes, c.beside.ensures.nodes, g.1, h.1, k.1),
      omega (arith, c.over.ensures.depth, c.beside-parts.ensures.depth, c.beside.ensures.depth, g.2, h.2, k.2),
      omega (arith, c.over.ensures.share, c.saturating_add-share.ensures, c.times-items.ensures (spread t) (share x + share y) g.0 shares, k.3),
    )
