use Rattle.std.proofs.Common.{[], ◌∷◌, refl, arith, map}
use Rattle.ca_extent.specs.clauses.Ids.{op_number}
use Rattle.ca_extent.proofs.Walks.{one_more_at, none_left}
use Rattle.ca_extent.proofs.extent.numbers_of_ops.Goals as goal

pub loop-op-preserved : goal.loop-op-preserved
loop-op-preserved c = one_more_at (λ op. op_number op ∷ []) (map op_number) (λ x xs. refl) c.args.ops.now c.loop-op.op-index _ (omega arith) _ _ _ c.loop-op.invariant c.in_ok-push.ensures.items

pub returns : goal.returns
returns c = none_left (map op_number) refl c.args.ops.now c.loop-op.op-index (omega arith) _ _ c.loop-op.invariant
