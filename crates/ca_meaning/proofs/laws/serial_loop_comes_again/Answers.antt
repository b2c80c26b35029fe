use Rattle.ca_meaning.proofs.Fix.{loop_runs}
use Rattle.ca_meaning.proofs.laws.serial_loop_comes_again.Goals as goal

pub returns : goal.returns
returns c = loop_runs
