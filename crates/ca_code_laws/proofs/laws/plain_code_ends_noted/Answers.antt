use Rattle.ca_code_laws.proofs.Grown.{plain_ends}
use Rattle.ca_code_laws.proofs.laws.plain_code_ends_noted.Goals as goal

pub returns : goal.returns
returns c = plain_ends
