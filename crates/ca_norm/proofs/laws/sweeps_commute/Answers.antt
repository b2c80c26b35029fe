use Rattle.ca_norm.proofs.SumsCommute.{sweeps_commute}
use Rattle.ca_norm.proofs.laws.sweeps_commute.Goals as goal

pub returns : goal.returns
returns c = sweeps_commute
