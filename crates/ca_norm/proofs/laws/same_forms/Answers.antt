use Rattle.ca_norm.proofs.Values.{same_forms}
use Rattle.ca_norm.proofs.laws.same_forms.Goals as goal

pub returns : goal.returns
returns c = same_forms
