use Rattle.ca_typing.proofs.ScopedPrograms.{operations_are_scoped}
use Rattle.ca_typing.proofs.laws.counters_stay_in_their_loops.Goals as goal

pub returns : goal.returns
returns c = operations_are_scoped
