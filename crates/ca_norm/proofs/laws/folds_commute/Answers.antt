use Rattle.ca_norm.proofs.FoldsCommute.{folds_commute}
use Rattle.ca_norm.proofs.laws.folds_commute.Goals as goal

pub returns : goal.returns
returns c = folds_commute
