use Rattle.ca_symbolic_laws.proofs.Parts.{fields_stay_typed}
use Rattle.ca_symbolic_laws.proofs.laws.fields_stay_typed.Goals as goal

pub returns : goal.returns
returns c = fields_stay_typed
