use Rattle.ca_norm.proofs.FoldsCommute.{folds_associate}
use Rattle.ca_norm.proofs.laws.folds_associate.Goals as goal

pub returns : goal.returns
returns c = folds_associate
