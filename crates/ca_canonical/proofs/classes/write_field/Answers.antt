use Rattle.ca_canonical.proofs.Writing.{then}
use Rattle.ca_canonical.proofs.classes.write_field.Goals as goal

pub returns : goal.returns
returns c = then c.write_type.ensures (then c.name.ensures (then c.write_length.ensures c.sign.ensures))
