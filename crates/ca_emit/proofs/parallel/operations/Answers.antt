use Rattle.std.proofs.Common.{refl, arith}
use Rattle.ca_extent.proofs.Walks.{one_more, none_left}
use Rattle.ca_emit.specs.Annotations.{operations_in}
use Rattle.ca_emit.specs.clauses.Seen.{members_seen}
use Rattle.ca_emit.proofs.Found.{of_classes}
use Rattle.ca_emit.proofs.parallel.operations.Goals as goal

pub loop-class-init : goal.loop-class-init
loop-class-init c = rw (c.new-found.ensures.items, c.deref-class-items.ensures.value) refl

pub loop-class-preserved : goal.loop-class-preserved
loop-class-preserved c =
    one_more (λ k. operations_in (members_seen k.members.items)) of_classes (λ k ks. refl) c.deref-class-items.result.now c.loop-class.class-index c.class-item.result (omega arith) c.class-item.is _ _ _ c.loop-class.invariant
    (rw c.deref.ensures.value at c.in_ok-add_operations.ensures)

pub returns : goal.returns
returns c = none_left of_classes refl c.deref-class-items.result.now c.loop-class.class-index (omega arith) _ _ c.loop-class.invariant
