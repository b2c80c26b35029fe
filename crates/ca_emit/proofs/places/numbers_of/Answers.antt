use Rattle.std.proofs.Common.{◌∷◌, [], map, refl, arith}
use Rattle.ca_extent.proofs.Walks.{one_more_at, none_left}
use Rattle.ca_emit.specs.Annotations.{place_number}
use Rattle.ca_emit.proofs.places.numbers_of.Goals as goal

pub loop-at-preserved : goal.loop-at-preserved
loop-at-preserved c = one_more_at (λ at. place_number at ∷ []) (map place_number) (λ x xs. refl) c.args.places.now c.loop-at.at-index _ (omega arith) _ _ _ c.loop-at.invariant (rw c.number_of.ensures at c.in_ok-push.ensures.items)

pub returns : goal.returns
returns c = none_left (map place_number) refl c.args.places.now c.loop-at.at-index (omega arith) _ _ c.loop-at.invariant
