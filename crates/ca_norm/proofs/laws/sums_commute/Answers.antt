use Rattle.ca_norm.proofs.SumsCommute.{sums_commute}
use Rattle.ca_norm.proofs.laws.sums_commute.Goals as goal

pub returns : goal.returns
returns c = sums_commute
