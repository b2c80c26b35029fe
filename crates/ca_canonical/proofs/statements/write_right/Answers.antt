use Rattle.ca_canonical.proofs.Writing.{then}
use Rattle.ca_canonical.proofs.statements.write_right.Goals as goal

pub returns-in-New : goal.returns-in-New
returns-in-New c = rw c.in-New.is (then c.key.ensures (then c.name.ensures (then c.sign.ensures c.sign-in-New.ensures)))

pub returns-in-Value : goal.returns-in-Value
returns-in-Value c = rw c.in-Value.is c.write_expression.ensures
