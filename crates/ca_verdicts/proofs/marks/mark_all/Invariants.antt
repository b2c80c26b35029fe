use Rattle.std.proofs.Common.{◌++◌, drop}
use Rattle.ca_sums.proofs.Products.{SameTotals}
use Rattle.ca_symbolic.specs.declared.running.Side.{Side}
use Rattle.ca_verdicts.specs.Keys.{Key}
use Rattle.ca_verdicts.specs.clauses.Marks.{marks_of, marks_at, found, if_side}
use Rattle.ca_verdicts.proofs.marks.mark_all.Given as goal

-- the marks so far and those of the demands to come are those before and of all demands
abbrev pub invariant-loop-demand : goal.invariant-loop-demand
invariant-loop-demand l =
    (s : Side) (k : Key) → SameTotals (marks_at s (found l.table.entries k) ++ if_side l.side s (marks_of k l.number (drop l.demand-index l.demands)))
    (marks_at s (found l.initial.table.entries k) ++ if_side l.side s (marks_of k l.number l.demands))
