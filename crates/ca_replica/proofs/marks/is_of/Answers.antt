use Rattle.std.proofs.Common.{ap, ◌∙◌}
use Rattle.ca_model.specs.declared.value.Object.{Object}
use Rattle.ca_section.specs.Offences.{is_written}
use Rattle.ca_order_laws.proofs.Places.{one_some}
use Rattle.ca_replica.proofs.InPlace.{field_at}
use Rattle.ca_replica.proofs.marks.is_of.Goals as goal

pub returns : goal.returns
returns c = λ o there.
    let q = c.at.result.now in
    c.is_written.ensures
    ∙ (ap (λ fs. is_written fs (field_at q.class c.args.field)) c.written.ensures
    ∙ ap (λ (z : Object). is_written c.args.extent.now.written (field_at z.class c.args.field)) (one_some _ q o c.at.ensures there))
