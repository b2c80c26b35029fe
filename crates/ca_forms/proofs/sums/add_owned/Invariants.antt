use Rattle.std.proofs.Common.{length}
use Rattle.ca_sums.specs.Sums.{Sum, NoZero, AddsSum}
use Rattle.ca_forms.specs.Plain.{PlainMonomial}
use Rattle.ca_forms.proofs.sums.add_owned.Given as goal

abbrev pub invariant-loop-product : goal.invariant-loop-product
invariant-loop-product l =
    NoZero l.form.entries × ((end : Sum PlainMonomial) → AddsSum l.form.entries end l.factor l.rest.items → AddsSum l.initial.form.entries end l.factor l.initial.rest.items)

abbrev pub decreases-loop-product : goal.decreases-loop-product
decreases-loop-product l = length l.rest.items
