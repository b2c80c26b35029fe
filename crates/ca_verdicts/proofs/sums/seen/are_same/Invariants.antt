use Rattle.std.proofs.Common.{◌≡◌, drop, map}
use Rattle.ca_verdicts.specs.clauses.Marks.{summed_up, condition_of}
use Rattle.ca_verdicts.proofs.sums.seen.are_same.Given as goal

-- where the marks to come are the same, all are
abbrev pub invariant-loop-place : goal.invariant-loop-place
invariant-loop-place l =
    summed_up (map condition_of l.first) (drop l.place l.ones) ≡ summed_up (map condition_of l.second) (drop l.place l.others) → summed_up (map condition_of l.first) l.ones ≡ summed_up (map condition_of l.second) l.others
