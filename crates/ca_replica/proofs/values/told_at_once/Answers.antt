use Rattle.std.proofs.Common.{ap, sym, ◌∙◌}
use Rattle.ca_meaning.specs.Expressions.{one_in}
use Rattle.ca_replica.specs.Applied.{sums}
use Rattle.ca_replica.proofs.InPlace.{slot_same, sums_many}
use Rattle.ca_replica.proofs.values.told_at_once.Goals as goal

pub returns-then-stays_at_once : goal.returns-then-stays_at_once
returns-then-stays_at_once c = λ cs olds k.
    let ws = c.args.ground.now.extent.now.written in
    let h = c.args.ground.now.frozen.now in
    sym (c.field_of.ensures
    ∙ ap one_in (slot_same ws h (sums ws h cs) (sums_many ws h cs) k.constants c.args.n c.args.f (λ o there. c.stays_at_once.ensures c.if-stays_at_once.true ws k.marked o there)))
