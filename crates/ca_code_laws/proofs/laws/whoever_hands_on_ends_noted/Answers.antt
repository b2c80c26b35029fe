use Rattle.ca_code_laws.proofs.Grown.{ends_noted}
use Rattle.ca_code_laws.proofs.laws.whoever_hands_on_ends_noted.Goals as goal

pub returns : goal.returns
returns c = ends_noted
