use Rattle.ca_symbolic_laws.proofs.Parts.{states_stay_typed}
use Rattle.ca_symbolic_laws.proofs.laws.states_stay_typed.Goals as goal

pub returns : goal.returns
returns c = states_stay_typed
