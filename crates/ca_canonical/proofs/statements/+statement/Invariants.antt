use Rattle.std.proofs.Common.{None, drop}
use Rattle.ca_tree.specs.View.{statements_view}
use Rattle.ca_canonical.specs.Annotated.{marked_all}
use Rattle.ca_canonical.specs.Marks.{front_view}
use Rattle.ca_canonical.proofs.Writing.{Leaves}
use Rattle.ca_canonical.proofs.statements.+statement.Given as goal

abbrev pub invariant-write_statements-items : goal.invariant-write_statements-items
invariant-write_statements-items g l =
    let f = (g.M.Marks.marking l.marks).before l.body in
    Leaves l.initial.pen (marked_all f None (statements_view l.items)) l.pen (marked_all f (front_view l.front) (statements_view (drop l.s-index l.items)))
