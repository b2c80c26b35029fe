use Rattle.ca_plain_laws.proofs.Weights.{plain_pairs_are_light}
use Rattle.ca_plain_laws.proofs.laws.plain_pairs_are_light.Goals as goal

pub returns : goal.returns
returns c = plain_pairs_are_light
