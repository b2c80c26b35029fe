use Rattle.ca_code_laws.proofs.Grown.{stands_in_front}
use Rattle.ca_code_laws.proofs.laws.prints_and_notes_only_grow.Goals as goal

pub returns : goal.returns
returns c = stands_in_front
