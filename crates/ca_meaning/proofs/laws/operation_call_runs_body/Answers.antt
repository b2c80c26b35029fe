use Rattle.ca_meaning.proofs.Fix.{invoke_runs}
use Rattle.ca_meaning.proofs.laws.operation_call_runs_body.Goals as goal

pub returns : goal.returns
returns c = invoke_runs
