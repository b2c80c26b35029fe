use Rattle.std.proofs.Common.{drop, map}
use Rattle.ca_tree.specs.View.{class_view}
use Rattle.ca_canonical.specs.Annotated.{marked_classes}
use Rattle.ca_canonical.proofs.Writing.{Leaves}
use Rattle.ca_canonical.proofs.classes.write_classes.Given as goal

abbrev pub invariant-classes : goal.invariant-classes
invariant-classes g l =
    let f = g.M.Marks.marking l.marks in
    Leaves l.initial.pen (marked_classes f (map class_view l.classes)) l.pen (marked_classes f (map class_view (drop l.class-index l.classes)))
