use Rattle.std.proofs.Common.{[], ◌∷◌, refl, arith, map}
use Rattle.ca_extent.specs.clauses.Ids.{op_of}
use Rattle.ca_extent.proofs.Walks.{one_more_at, none_left}
use Rattle.ca_extent.proofs.extent.ops_of.Goals as goal

pub loop-n-preserved : goal.loop-n-preserved
loop-n-preserved c = one_more_at (λ n. op_of n ∷ []) (map op_of) (λ x xs. refl) c.args.numbers.now c.loop-n.n-index _ (omega arith) _ _ _ c.loop-n.invariant c.in_ok-push.ensures.items

pub returns : goal.returns
returns c = none_left (map op_of) refl c.args.numbers.now c.loop-n.n-index (omega arith) _ _ c.loop-n.invariant
