use Rattle.ca_code_laws.proofs.Grown.{marked_ends}
use Rattle.ca_code_laws.proofs.laws.marked_code_ends_noted.Goals as goal

pub returns : goal.returns
returns c = marked_ends
