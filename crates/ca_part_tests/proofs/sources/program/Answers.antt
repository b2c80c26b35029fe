use Rattle.ca_tree.specs.View.{tree_view}
use Rattle.ca_program.specs.View.{program_view}
use Rattle.ca_typing.proofs.Texts.{text_is_typed}
use Rattle.ca_part_tests.proofs.sources.program.Goals as goal

pub returns : goal.returns
returns g c =
    let t = c.tree.ensures in
    text_is_typed t.0 t.1 0 (tree_view c.tree.result.now) (program_view c.checked.result.now) t.2 t.3 c.checked.ensures
