use Rattle.std.proofs.Common.{drop, map}
use Rattle.ca_sums.specs.Sums.{Sum, NoZero, AddsSum}
use Rattle.ca_forms.specs.Plain.{PlainMonomial}
use Rattle.ca_verdicts.specs.clauses.Marks.{summed_up, condition_of}
use Rattle.ca_verdicts.proofs.sums.sum_of.Given as goal

abbrev pub invariant-loop-mark : goal.invariant-loop-mark
invariant-loop-mark l =
    NoZero l.form.entries × ((end : Sum PlainMonomial) → AddsSum l.form.entries end 1 (summed_up (map condition_of l.groups) (drop l.mark-index l.marks)) → AddsSum l.initial.form.entries end 1 (summed_up (map condition_of l.groups) l.marks))
