use Rattle.std.proofs.Common.{drop, map}
use Rattle.ca_tree.specs.View.{member_view}
use Rattle.ca_canonical.specs.Annotated.{marked_members}
use Rattle.ca_canonical.proofs.Writing.{Leaves}
use Rattle.ca_canonical.proofs.classes.write_members.Given as goal

abbrev pub invariant-members : goal.invariant-members
invariant-members g l =
    let f = g.M.Marks.marking l.marks in
    Leaves l.initial.pen (marked_members f (map member_view l.members)) l.pen (marked_members f (map member_view (drop l.member-index l.members)))
