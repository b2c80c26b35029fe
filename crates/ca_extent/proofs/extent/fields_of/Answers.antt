use Rattle.std.proofs.Common.{[], ◌∷◌, refl, arith, map}
use Rattle.ca_extent.specs.clauses.Ids.{field_of}
use Rattle.ca_extent.proofs.Walks.{one_more_at, none_left}
use Rattle.ca_extent.proofs.extent.fields_of.Goals as goal

pub loop-pair-preserved : goal.loop-pair-preserved
loop-pair-preserved c = one_more_at (λ p. field_of p ∷ []) (map field_of) (λ x xs. refl) c.args.pairs.now c.loop-pair.pair-index _ (omega arith) _ _ _ c.loop-pair.invariant c.in_ok-push.ensures.items

pub returns : goal.returns
returns c = none_left (map field_of) refl c.args.pairs.now c.loop-pair.pair-index (omega arith) _ _ c.loop-pair.invariant
