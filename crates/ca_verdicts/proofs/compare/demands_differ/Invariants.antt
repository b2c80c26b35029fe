use Rattle.std.proofs.Common.{length, map}
use Rattle.ca_verdicts.specs.clauses.Marks.{condition_of, AreSame, AllSettled, EachMarked}
use Rattle.ca_verdicts.proofs.compare.demands_differ.Given as goal

abbrev pub invariant-loop-key : goal.invariant-loop-key
invariant-loop-key l =
    EachMarked l.first l.second l.entries.items × (AreSame l.first l.second l.entries.items → AreSame l.first l.second l.initial.entries.items) × AllSettled (map condition_of l.first) (map condition_of l.second) l.known.settled.keys

abbrev pub decreases-loop-key : goal.decreases-loop-key
decreases-loop-key l = length l.entries.items
