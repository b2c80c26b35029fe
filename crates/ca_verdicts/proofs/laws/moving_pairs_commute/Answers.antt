use Rattle.ca_verdicts.proofs.Moving.{moving_commutes}
use Rattle.ca_verdicts.proofs.laws.moving_pairs_commute.Goals as goal

pub returns : goal.returns
returns c = moving_commutes
