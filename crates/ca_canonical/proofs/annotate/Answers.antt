use Rattle.std.proofs.Common.{[], map, ◌∙◌}
use Rattle.ca_tree.specs.View.{class_view, statements_view, tree_view}
use Rattle.ca_canonical.specs.Annotated.{annotated, marked_classes, marked_main}
use Rattle.ca_canonical.specs.clauses.Pens.{WritesPieces}
use Rattle.ca_canonical.proofs.Writing.{after, finished}
use Rattle.ca_canonical.proofs.annotate.Goals as goal

pub returns : goal.returns
returns g c =
    let m = g.M.Marks.marking c.args.marks.now in
    let classes : WritesPieces c.new-pen.result c.write_classes.new.pen (marked_classes m (map class_view c.args.tree.now.classes.items)) = rw c.deref.ensures.value at c.write_classes.ensures in
    let main : WritesPieces c.write_classes.new.pen c.write_main.new.pen (marked_main m (statements_view c.args.tree.now.main.items)) = rw c.deref-2.ensures.value at c.write_main.ensures in
    let all : WritesPieces c.new-pen.result c.write_main.new.pen (annotated m (tree_view c.args.tree.now)) = after classes main in
    c.in_ok-text.ensures.text ∙ all.says c.in_ok-text.ensures.failed [] ∙ finished c.new-pen.result (annotated m (tree_view c.args.tree.now)) c.new-pen.ensures
