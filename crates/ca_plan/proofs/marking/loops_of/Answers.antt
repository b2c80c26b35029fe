use Rattle.std.proofs.Common.{[], ◌∷◌, refl, arith, map}
use Rattle.ca_extent.proofs.Walks.{one_more_at, none_left}
use Rattle.ca_plan.specs.Told.{loop_of}
use Rattle.ca_plan.proofs.marking.loops_of.Goals as goal

pub loop-n-preserved : goal.loop-n-preserved
loop-n-preserved c = one_more_at (λ n. loop_of n ∷ []) (map loop_of) (λ x xs. refl) c.args.numbers.now c.loop-n.n-index _ (omega arith) _ _ _ c.loop-n.invariant c.in_ok-push.ensures.items

pub returns : goal.returns
returns c = none_left (map loop_of) refl c.args.numbers.now c.loop-n.n-index (omega arith) _ _ c.loop-n.invariant
