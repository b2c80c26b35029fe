use Rattle.ca_canonical.proofs.Writing.{then}
use Rattle.ca_canonical.proofs.classes.write_signature.Goals as goal

pub returns : goal.returns
returns c = then c.write_result.ensures (then c.name.ensures (rw c.deref.ensures.value at c.write_params.ensures))
