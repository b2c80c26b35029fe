use Rattle.std.proofs.Common.{◌≡◌, refl}
use Rattle.ca_forms.specs.ArrayRules.{summed, put_sum, added_at}
use Rattle.ca_forms.proofs.Told.{made}
use Rattle.ca_forms.proofs.array.Array.added_at.Goals as goal

pub returns : goal.returns
returns c =
    made c.summed.result c.put_sum.result (λ v. summed c.parted-rest.result.0 v.items) (added_at c.args.self c.args.span c.args.addend)
    (λ v. v.items ≡ put_sum c.args.span c.args.addend c.parted-rest.result.1.items)
    (λ v e. rw (e, c.parted-rest.ensures.rest, c.parted-rest.ensures.rows) refl) c.put_sum.ensures c.summed.ensures
