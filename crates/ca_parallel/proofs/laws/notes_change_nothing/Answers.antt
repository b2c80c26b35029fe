use Rattle.ca_parallel.proofs.Noted.{notes_change_nothing}
use Rattle.ca_parallel.proofs.laws.notes_change_nothing.Goals as goal

pub returns : goal.returns
returns c = notes_change_nothing
