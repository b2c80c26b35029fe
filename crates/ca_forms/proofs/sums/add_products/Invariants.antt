use Rattle.std.proofs.Common.{drop}
use Rattle.ca_sums.specs.Sums.{Sum, NoZero, AddsSum}
use Rattle.ca_sums.specs.Products.{product}
use Rattle.ca_forms.specs.Plain.{PlainMonomial}
use Rattle.ca_forms.specs.Products.{times}
use Rattle.ca_forms.proofs.sums.add_products.Given as goal

abbrev pub invariant-loop-one : goal.invariant-loop-one
invariant-loop-one l =
    NoZero l.form.entries × ((end : Sum PlainMonomial) → AddsSum l.form.entries end l.factor (product times (drop l.one-index l.a) l.b) → AddsSum l.initial.form.entries end l.factor (product times l.a l.b))
