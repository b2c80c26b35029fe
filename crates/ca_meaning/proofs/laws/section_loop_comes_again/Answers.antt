use Rattle.ca_meaning.proofs.Fix.{section_loop_runs}
use Rattle.ca_meaning.proofs.laws.section_loop_comes_again.Goals as goal

pub returns : goal.returns
returns c = section_loop_runs
