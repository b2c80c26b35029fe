use Rattle.ca_canonical.proofs.Writing.{then}
use Rattle.ca_canonical.proofs.statements.write_ended.Goals as goal

pub returns : goal.returns
returns c = then c.write_expression.ensures c.sign.ensures
