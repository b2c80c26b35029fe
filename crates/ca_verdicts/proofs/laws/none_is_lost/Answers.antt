use Rattle.ca_verdicts.proofs.FormsSame.{none_lost}
use Rattle.ca_verdicts.proofs.laws.none_is_lost.Goals as goal

pub returns : goal.returns
returns c = none_lost
