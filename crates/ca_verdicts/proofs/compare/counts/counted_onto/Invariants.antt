use Rattle.std.proofs.Common.{◌≡◌, false, drop}
use Rattle.ca_shared_terms.specs.Heavy.{is_heavy}
use Rattle.ca_verdicts.specs.Counts.{counted_onto}
use Rattle.ca_verdicts.proofs.compare.counts.counted_onto.Given as goal

-- what is summed, and what is to come behind it
abbrev pub invariant-loop-place : goal.invariant-loop-place
invariant-loop-place l = (counted_onto l.fn.start (drop l.from l.conditions) ≡ counted_onto l.sum (drop l.place l.conditions)) × (is_heavy l.sum ≡ false)
