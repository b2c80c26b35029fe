use Rattle.std.proofs.Common.{◌*◌, ◌-◌, ◌%◌, ◌^◌, true}
use Rattle.ca_sums.specs.Sums.{AddsSum}
use Rattle.ca_sums.proofs.Additions.{adds_both}
use Rattle.ca_forms.specs.Rules.{minus, truth_sum, less_sum}
use Rattle.ca_forms.proofs.Told.{on_ok}
use Rattle.ca_forms.proofs.Gathered.{adds_scaled}
use Rattle.ca_order.proofs.comparisons.add_not_less.Goals as goal

pub returns-clause-added : goal.returns-clause-added
returns-clause-added c =
    let mid = c.add_truth.new.form.entries in
    let new = c.add_less.new.form.entries in
    on_ok c.add_less.result _ _
    (λ (added : AddsSum mid new ((c.args.factor * (2 ^ 64 - 1)) % (2 ^ 64)) (less_sum c.args.f c.args.g)). adds_both c.args.form.now.entries mid new c.args.factor (truth_sum true) (minus (less_sum c.args.f c.args.g)) c.in_ok-add_truth.ensures.added (adds_scaled mid new c.args.factor (2 ^ 64 - 1) (less_sum c.args.f c.args.g) added))
    (rw c.opposite.ensures at c.add_less.ensures.added)
