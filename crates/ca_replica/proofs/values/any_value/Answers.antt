use Rattle.std.proofs.Common.{ap, ◌∙◌}
use Rattle.ca_meaning.specs.Expressions.{one_in, slot_of}
use Rattle.ca_replica.specs.Applied.{sums}
use Rattle.ca_replica.proofs.InPlace.{slot_same, sums_many}
use Rattle.ca_replica.proofs.values.any_value.Goals as goal

pub returns-then-stays : goal.returns-then-stays
returns-then-stays c = λ olds k.
    let ws = c.args.ground.now.extent.now.written in
    let h = c.args.ground.now.frozen.now in
    let cs = c.args.copies.now in
    c.field_of.ensures
    ∙ ap one_in (slot_same ws h (sums ws h cs) (sums_many ws h cs) k.constants c.args.n c.args.f (λ o there. c.stays.ensures c.if-stays.true k.marked o there))

pub returns : goal.returns
returns c = λ olds k.
    c.value_in.ensures ∙ ap (λ fs. one_in (slot_of (sums fs c.args.ground.now.frozen.now c.args.copies.now) c.args.n c.args.f)) c.written.ensures
