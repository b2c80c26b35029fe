use Rattle.ca_symbolic.proofs.CallLoops.{call_loops_are_told}
use Rattle.ca_symbolic.proofs.laws.call_loops_are_told.Goals as goal

pub returns : goal.returns
returns c = call_loops_are_told
