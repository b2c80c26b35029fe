use Rattle.std.proofs.Common.{map, sym, subst, ◌∙◌}
use Rattle.ca_tree.specs.View.{member_view}
use Rattle.ca_resolve.specs.Judged.{Answers, fine}
use Rattle.ca_types.specs.Classes.{no_members, behind_member}
use Rattle.ca_types.specs.clauses.Adding.{add_member}
use Rattle.ca_types.specs.clauses.View.{member_env, members_view}
use Rattle.ca_types.proofs.Gathered.{members_gathered}
use Rattle.ca_types.proofs.Lists.{next_item, rest_step, rest_end, none_left}
use Rattle.ca_types.proofs.classes.check_members.Goals as goal

pub loop-member-preserved : goal.loop-member-preserved
loop-member-preserved c =
    let s = member_env c.loop-member.standing in
    let m = member_view c.member-item.result in
    let front = c.loop-member.invariant.0 in (
      add_member s front m,
      c.in_ok-answers.ensures.judged front c.loop-member.invariant.1,
      rest_step behind_member add_member (member_env c.args.standing.now) s (member_env c.check_member.new.standing) (fine no_members) front (map member_view c.args.members.now) m _ _
          (next_item member_view c.args.members.now c.loop-member.member-index c.member-item.result c.loop-member-test.true c.member-item.is)
          c.in_ok-answers.ensures.behind c.loop-member.invariant.2,
    )

pub returns-clause-judged : goal.returns-clause-judged
returns-clause-judged c =
    let e = rest_end behind_member add_member (member_env c.args.standing.now) (member_env c.loop-member.standing) (fine no_members) c.loop-member.invariant.0 (map member_view c.args.members.now) _ (none_left member_view c.args.members.now c.loop-member.member-index c.loop-member-test.false) c.loop-member.invariant.2 in
    subst (λ j. Answers members_view c.loop-member.answers j) (sym (members_gathered (member_env c.args.standing.now) (map member_view c.args.members.now) ∙ e.0)) c.loop-member.invariant.1

pub returns-clause-behind : goal.returns-clause-behind
returns-clause-behind c =
    let e = rest_end behind_member add_member (member_env c.args.standing.now) (member_env c.loop-member.standing) (fine no_members) c.loop-member.invariant.0 (map member_view c.args.members.now) _ (none_left member_view c.args.members.now c.loop-member.member-index c.loop-member-test.false) c.loop-member.invariant.2 in
    sym e.1
