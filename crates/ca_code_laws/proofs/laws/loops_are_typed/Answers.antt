use Rattle.ca_code_laws.proofs.Loops.{loops_typed}
use Rattle.ca_code_laws.proofs.laws.loops_are_typed.Goals as goal

pub returns : goal.returns
returns c = loops_typed
