use Rattle.std.proofs.Common.{drop}
use Rattle.ca_sums.specs.Sums.{Sum, NoZero, AddsSum}
use Rattle.ca_forms.specs.Plain.{PlainMonomial}
use Rattle.ca_forms.proofs.sums.add_all.Given as goal

abbrev pub invariant-loop-product : goal.invariant-loop-product
invariant-loop-product l =
    NoZero l.form.entries × ((end : Sum PlainMonomial) → AddsSum l.form.entries end l.factor (drop l.product-index l.products) → AddsSum l.initial.form.entries end l.factor l.products)
