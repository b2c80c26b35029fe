use Rattle.ca_app.proofs.AcceptedTyped.{accepted_is_typed}
use Rattle.ca_app.proofs.laws.accepted_programs_are_typed.Goals as goal

pub returns : goal.returns
returns c = λ text p. accepted_is_typed
