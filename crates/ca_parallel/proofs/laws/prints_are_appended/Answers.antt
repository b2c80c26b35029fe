use Rattle.ca_parallel.proofs.Appended.{prints_appended}
use Rattle.ca_parallel.proofs.laws.prints_are_appended.Goals as goal

pub returns : goal.returns
returns c = prints_appended
