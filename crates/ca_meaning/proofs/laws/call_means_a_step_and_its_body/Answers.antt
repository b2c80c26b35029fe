use Rattle.ca_meaning.proofs.Fix.{call_means}
use Rattle.ca_meaning.proofs.laws.call_means_a_step_and_its_body.Goals as goal

pub returns : goal.returns
returns c = call_means
