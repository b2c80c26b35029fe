use Rattle.ca_canonical.proofs.Program.{erased}
use Rattle.ca_canonical.proofs.laws.annotated_texts_are_erased.Goals as goal

pub returns : goal.returns
returns c = erased
