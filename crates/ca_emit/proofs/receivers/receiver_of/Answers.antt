use Rattle.std.proofs.Common.{◌≡◌, Some, sym, ap, ◌∙◌}
use Rattle.ca_tree.specs.Plain.{method}
use Rattle.ca_tree.specs.View.{kind_view, expression_view, expressions_view}
use Rattle.ca_canonical.proofs.Rows.{method_is}
use Rattle.ca_emit.specs.Receivers.{receiver_of}
use Rattle.ca_emit.proofs.receivers.receiver_of.Goals as goal

pub returns-in-Method : goal.returns-in-Method
returns-in-Method c =
    let at = c.args.call.now.at in
    let v = c.in-Method in
    let is : expression_view c.args.call.now ≡ method at (expression_view v.object.value) v.field-1 (expressions_view v.field-2.items) = ap (λ k. kind_view k at) v.is ∙ method_is at v.object v.field-1 v.field-2 in
    ap (λ e. Some (expression_view e)) c.deref-receiver.ensures ∙ sym (ap receiver_of is)
