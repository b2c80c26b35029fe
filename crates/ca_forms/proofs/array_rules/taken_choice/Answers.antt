use Rattle.std.proofs.Common.{◌≡◌, refl, true}
use Rattle.ca_forms.specs.ArrayRules.{summed, chosen_rows, chosen_if}
use Rattle.ca_forms.proofs.Told.{made}
use Rattle.ca_forms.proofs.array_rules.taken_choice.Goals as goal

pub returns : goal.returns
returns c =
    made c.summed.result c.chosen_rows.result (λ v. summed c.parted-rest.result.0 v.items) (chosen_if true c.args.condition c.args.first c.args.second)
    (λ v. v.items ≡ chosen_rows c.args.condition c.parted-gone.result.1.items c.parted-rest.result.1.items)
    (λ v e. rw (e, c.parted-rest.ensures.rest, c.parted-rest.ensures.rows, c.parted-gone.ensures.rows) refl) c.chosen_rows.ensures c.summed.ensures
