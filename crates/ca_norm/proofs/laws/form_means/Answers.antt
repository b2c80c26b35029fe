use Rattle.ca_norm.proofs.Values.{means}
use Rattle.ca_norm.proofs.laws.form_means.Goals as goal

pub returns : goal.returns
returns c = means
