use Rattle.ca_meaning.proofs.Fix.{call_runs}
use Rattle.ca_meaning.proofs.laws.value_call_runs_body.Goals as goal

pub returns : goal.returns
returns c = call_runs
