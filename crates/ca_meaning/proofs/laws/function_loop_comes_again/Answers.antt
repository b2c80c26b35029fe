use Rattle.ca_meaning.proofs.Fix.{again_runs}
use Rattle.ca_meaning.proofs.laws.function_loop_comes_again.Goals as goal

pub returns : goal.returns
returns c = again_runs
