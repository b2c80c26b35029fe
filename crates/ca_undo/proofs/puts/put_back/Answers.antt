use Rattle.std.proofs.Common.{◌∙◌, sym, true≢false}
use Rattle.ca_undo.proofs.Restoring.{put_back_nowhere, put_back_there}
use Rattle.ca_undo.proofs.puts.put_back.Goals as goal

pub store-requires : goal.store-requires
store-requires c = c.has_slot.ensures.0 c.if-has_slot.true

pub returns-then-has_slot : goal.returns-then-has_slot
returns-then-has_slot c =
    let o = c.args.old in
    c.store.ensures ∙ sym (put_back_there c.args.heap.now o.object o.field o.item o.value (c.has_slot.ensures.0 c.if-has_slot.true))

pub returns-else-has_slot : goal.returns-else-has_slot
returns-else-has_slot c = put_back_nowhere c.args.heap.now c.args.old (λ has. true≢false (sym (c.has_slot.ensures.1 has) ∙ c.if-has_slot.false))
