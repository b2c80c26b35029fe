use Rattle.std.proofs.Common.{drop}
use Rattle.ca_sums.specs.Sums.{Sum, NoZero, AddsSum}
use Rattle.ca_sums.specs.Products.{row}
use Rattle.ca_forms.specs.Plain.{PlainMonomial}
use Rattle.ca_forms.specs.Products.{times}
use Rattle.ca_forms.proofs.sums.add_row.Given as goal

abbrev pub invariant-loop-other : goal.invariant-loop-other
invariant-loop-other l =
    NoZero l.form.entries × ((end : Sum PlainMonomial) → AddsSum l.form.entries end l.factor (row times l.one (drop l.other-index l.others)) → AddsSum l.initial.form.entries end l.factor (row times l.one l.others))
