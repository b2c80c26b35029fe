use Rattle.ca_norm.proofs.SumsCommute.{sweep_and_item}
use Rattle.ca_norm.proofs.laws.sweep_and_item.Goals as goal

pub returns : goal.returns
returns c = sweep_and_item
