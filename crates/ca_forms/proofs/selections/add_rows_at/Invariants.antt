use Rattle.std.proofs.Common.{drop}
use Rattle.ca_sums.specs.Sums.{Sum, NoZero, AddsSum}
use Rattle.ca_forms.specs.Plain.{PlainMonomial}
use Rattle.ca_forms.specs.ArrayRules.{rows_at}
use Rattle.ca_forms.proofs.selections.add_rows_at.Given as goal

abbrev pub invariant-loop-row : goal.invariant-loop-row
invariant-loop-row l =
    NoZero l.form.entries × ((end : Sum PlainMonomial) → AddsSum l.form.entries end l.factor (rows_at l.index (drop l.row-index l.rows)) → AddsSum l.initial.form.entries end l.factor (rows_at l.index l.rows))
