use Rattle.std.proofs.Common.{[], ◌∷◌, refl, arith}
use Rattle.ca_tree.specs.View.{member_view}
use Rattle.ca_extent.proofs.Walks.{one_more, none_left}
use Rattle.ca_emit.specs.Annotations.{operations_in}
use Rattle.ca_emit.specs.clauses.Seen.{members_seen}
use Rattle.ca_emit.proofs.Found.{of_members}
use Rattle.ca_emit.proofs.parallel.add_operations.Goals as goal

pub loop-m-preserved : goal.loop-m-preserved
loop-m-preserved c = one_more (λ m. operations_in (member_view m ∷ [])) (λ ms. operations_in (members_seen ms)) of_members c.args.members.now c.loop-m.m-index c.m-item.result (omega arith) c.m-item.is _ _ _ c.loop-m.invariant c.in_ok-add_operation.ensures

pub returns : goal.returns
returns c = none_left (λ ms. operations_in (members_seen ms)) refl c.args.members.now c.loop-m.m-index (omega arith) _ _ c.loop-m.invariant
