use Rattle.ca_code_laws.proofs.Grown.{loop_noted}
use Rattle.ca_code_laws.proofs.laws.loops_handed_on_are_noted.Goals as goal

pub returns : goal.returns
returns c = loop_noted
