use Rattle.ca_code_laws.proofs.Grown.{call_noted}
use Rattle.ca_code_laws.proofs.laws.calls_handed_on_are_noted.Goals as goal

pub returns : goal.returns
returns c = call_noted
