use Rattle.std.proofs.Common.{ap, ◌∙◌}
use Rattle.ca_tree.specs.View.{tree_view}
use Rattle.ca_canonical.specs.Texts.{text_of_pieces}
use Rattle.ca_canonical.proofs.Unmarked.{nothing_annotated}
use Rattle.ca_canonical.proofs.unparse.Goals as goal

pub returns : goal.returns
returns c = c.in_ok-text.ensures ∙ ap text_of_pieces (nothing_annotated (tree_view c.args.tree.now))
