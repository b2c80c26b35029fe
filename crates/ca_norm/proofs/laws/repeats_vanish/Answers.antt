use Rattle.ca_norm.proofs.FoldsCommute.{repeats_vanish}
use Rattle.ca_norm.proofs.laws.repeats_vanish.Goals as goal

pub returns : goal.returns
returns c = repeats_vanish
