use Rattle.ca_parse.proofs.OneTree.{tree_is_one}
use Rattle.ca_parse.proofs.laws.one_tree.Goals as goal

pub returns : goal.returns
returns c = tree_is_one
