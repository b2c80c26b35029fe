use Rattle.ca_plain_laws.proofs.Allowed.{plain_pairs_are_separable}
use Rattle.ca_plain_laws.proofs.laws.plain_pairs_are_separable.Goals as goal

pub returns : goal.returns
returns c = plain_pairs_are_separable
