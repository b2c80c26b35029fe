use Rattle.ca_canonical.proofs.Writing.{then}
use Rattle.ca_canonical.proofs.statements.write_condition.Goals as goal

pub returns : goal.returns
returns c = then c.key.ensures (then c.sign.ensures (then c.write_expression.ensures c.sign-2.ensures))
