use Rattle.std.proofs.Common.{map, drop}
use Rattle.ca_tree.specs.View.{member_view}
use Rattle.ca_resolve.specs.Judged.{Judged, Answers, fine}
use Rattle.ca_types.specs.Classes.{Members, no_members, behind_member}
use Rattle.ca_types.specs.clauses.Adding.{add_member}
use Rattle.ca_types.specs.clauses.View.{member_env, members_view}
use Rattle.ca_types.proofs.Lists.{Rest}
use Rattle.ca_types.proofs.classes.check_members.Given as goal

abbrev pub invariant-loop-member : goal.invariant-loop-member
invariant-loop-member l =
    (front : Judged Members) × Answers members_view l.answers front
    × Rest behind_member add_member (member_env l.fn.standing) (fine no_members) (map member_view l.members) (member_env l.standing) front (map member_view (drop l.member-index l.members))
