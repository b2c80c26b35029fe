use Rattle.std.proofs.Common.{ap, ◌∙◌}
use Rattle.ca_tree.specs.Plain.{method}
use Rattle.ca_tree.specs.View.{expression_view}
use Rattle.ca_tree.proofs.Rows.{row_is_list}
use Rattle.ca_expressions.specs.Readers.{node_view}
use Rattle.ca_expressions.proofs.Lists.{expressions_are}
use Rattle.ca_expressions.proofs.nodes.method.Goals as goal

pub returns : goal.returns
returns c =
    let e = row_is_list c.args.args ∙ expressions_are c.args.args.items in
    ap expression_view c.in_ok-made.ensures
    ∙ ap (λ z. method c.args.at (node_view c.args.object) c.args.name z) e
