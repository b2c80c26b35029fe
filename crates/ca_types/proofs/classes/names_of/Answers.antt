use Rattle.ca_tree.specs.View.{member_view}
use Rattle.ca_resolve.specs.Scopes.{member_name}
use Rattle.ca_resolve.proofs.Tables.{one_more_seen}
use Rattle.ca_types.proofs.classes.names_of.Goals as goal

pub loop-member-preserved : goal.loop-member-preserved
loop-member-preserved c =
    one_more_seen member_view member_name (λ n. n.now) c.args.members.now c.loop-member.member-index c.member-item.result c.loop-member.all.items _ c.member_name.result
    c.loop-member-test.true c.member-item.is c.member_name.ensures c.in_ok-add.ensures c.loop-member.invariant
