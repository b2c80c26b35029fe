use Rattle.ca_undo.proofs.old_sums.OldSums.new.Goals as goal

pub invariant_of-result : goal.invariant_of-result
invariant_of-result c = c.none_at_hand.ensures _
