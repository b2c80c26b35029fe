use Rattle.std.proofs.Common.{map, arith}
use Rattle.ca_tree.specs.View.{member_view}
use Rattle.ca_canonical.specs.Annotated.{marked_members}
use Rattle.ca_canonical.proofs.Writing.{all_left, none_left}
use Rattle.ca_canonical.proofs.Lists.{member_written, no_member_left}
use Rattle.ca_canonical.proofs.classes.write_members.Goals as goal

pub members-init : goal.members-init
members-init g c = all_left c.args.pen.now (marked_members (g.M.Marks.marking c.args.marks.now) (map member_view c.args.members.now))

pub members-preserved : goal.members-preserved
members-preserved g c = member_written (g.M.Marks.marking c.args.marks.now) c.args.members.now c.members.member-index c.member-item.result (omega arith) c.member-item.is c.members.invariant c.write_member.ensures

pub returns : goal.returns
returns g c = none_left c.members.invariant (no_member_left (g.M.Marks.marking c.args.marks.now) c.args.members.now c.members.member-index (omega arith))
