use Rattle.std.proofs.Common.{refl}
use Rattle.ca_sections.proofs.access.put_at_hand.Goals as goal

pub returns-then-not-has : goal.returns-then-not-has
returns-then-not-has c = record { put = λ e. cc; back = refl; there = λ t. t; kept = λ e. refl }

pub returns : goal.returns
returns c =
    record { put = c.put_at_hand.ensures.put; back = c.put_at_hand.ensures.back; there = c.put_at_hand.ensures.there; kept = c.put_at_hand.ensures.kept }
