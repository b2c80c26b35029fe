use Rattle.ca_canonical.proofs.Writing.{then}
use Rattle.ca_canonical.proofs.statements.write_ended_header.Goals as goal

pub returns : goal.returns
returns c = then c.write_header.ensures c.sign.ensures
