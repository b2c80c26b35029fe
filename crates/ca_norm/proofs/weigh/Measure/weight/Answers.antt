use Rattle.std.proofs.Common.{arith}
use Rattle.ca_norm.proofs.weigh.Measure.weight.Goals as goal

pub returns : goal.returns
returns c = λ x g. omega (arith, g.0, g.1, g.2, c.max.ensures, c.max-size.ensures, c.saturating_mul.ensures)
