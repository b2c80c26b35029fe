use Rattle.std.proofs.Common.{◌++◌, drop}
use Rattle.ca_sums.proofs.Products.{SameTotals}
use Rattle.ca_symbolic.specs.declared.running.Side.{Side}
use Rattle.ca_verdicts.specs.Keys.{Key}
use Rattle.ca_verdicts.specs.clauses.Marks.{marks_in, marks_at, found, if_side}
use Rattle.ca_verdicts.proofs.marks.mark_groups.Given as goal

abbrev pub invariant-loop-place : goal.invariant-loop-place
invariant-loop-place l =
    (s : Side) (k : Key) → SameTotals (marks_at s (found l.table.entries k) ++ if_side l.side s (marks_in k l.place (drop l.place l.groups)))
    (marks_at s (found l.initial.table.entries k) ++ if_side l.side s (marks_in k 0 l.groups))
