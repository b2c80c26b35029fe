use Rattle.std.proofs.Common.{◌∷◌, refl}
use Rattle.ca_undo.proofs.old_sums.hand_of.Goals as goal

pub returns-then-old-eq0 : goal.returns-then-old-eq0
returns-then-old-eq0 c = λ os e. (refl, refl, c.if-old-eq0.true)

pub returns : goal.returns
returns c = λ os. c.none_at_hand.ensures (c.args.old ∷ os)
