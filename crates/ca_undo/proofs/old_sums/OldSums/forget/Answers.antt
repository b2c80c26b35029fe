use Rattle.ca_undo.proofs.old_sums.OldSums.forget.Goals as goal

pub invariant_of-self : goal.invariant_of-self
invariant_of-self c = c.none_at_hand-self-inside.ensures _
