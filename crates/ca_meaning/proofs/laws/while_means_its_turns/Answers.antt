use Rattle.ca_meaning.proofs.Fix.{while_means}
use Rattle.ca_meaning.proofs.laws.while_means_its_turns.Goals as goal

pub returns : goal.returns
returns c = while_means
