use Rattle.std.proofs.Common.{arith}
use Rattle.ca_norm.proofs.normal.Goals as goal

pub returns-then-heavy-clause-large : goal.returns-then-heavy-clause-large
returns-then-heavy-clause-large c = λ _. omega (arith, c.if-heavy.true, c.weight-heavy.ensures)
