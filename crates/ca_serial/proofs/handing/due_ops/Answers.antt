use Rattle.std.proofs.Common.{◌∙◌, ap, [], ◌∷◌}
use Rattle.ca_code.specs.Codes.{code_seen}
use Rattle.ca_serial.proofs.Hands.{call_is}
use Rattle.ca_serial.proofs.Told.{after_none}
use Rattle.ca_serial.proofs.handing.due_ops.Goals as goal

pub returns-clause-calls : goal.returns-clause-calls
returns-clause-calls c =
    let values = after_none _ _ _ c.in_ok-values.ensures c.clear.ensures.items in
    let args = after_none _ _ _ c.in_ok-add_all.ensures c.new-args.ensures in
    rw (c.in_ok-push.ensures.items, c.new-ops.ensures.items)
    (ap (λ i. i ∷ []) (call_is (code_seen c.args.code.now) c.args.frames.now c.args.op c.args.first c.args.receiver _ _ c.params_of.ensures (args ∙ (c.as_slice.ensures.value ∙ values))))
