use Rattle.ca_canonical.proofs.Writing.{then}
use Rattle.ca_canonical.proofs.statements.write_for.Goals as goal

pub returns : goal.returns
returns c = then c.key.ensures (then c.sign.ensures (then c.write_ended_header.ensures (then c.write_expression.ensures (then c.sign-2.ensures (then c.write_header.ensures c.sign-3.ensures)))))
