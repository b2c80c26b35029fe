use Rattle.std.proofs.Common.{arith}
use Rattle.ca_undo.proofs.old_sums.none_at_hand.Goals as goal

pub returns : goal.returns
returns c = λ os e. absurd (omega (arith, e))
