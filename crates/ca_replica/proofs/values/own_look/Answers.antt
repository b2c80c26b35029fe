use Rattle.std.proofs.Common.{subst, rules, w64}
use mir.Val.{SFits}
use Rattle.std.proofs.lemmas.Int.{to_z-of_z}
use Rattle.ca_meaning.specs.Expressions.{slot_of}
use Rattle.ca_steps.specs.Telling.{Looks}
use Rattle.ca_replica.specs.Applied.{sums}
use Rattle.ca_replica.proofs.Arrays.{item_same}
use Rattle.ca_replica.proofs.InPlace.{slot_same, sums_many}
use Rattle.ca_replica.proofs.values.own_look.Goals as goal

pub returns-in-Holds : goal.returns-in-Holds
returns-in-Holds c = λ cs olds k line j.
    let small : SFits w64 c.args.index = search rules in
    let ws = c.args.ground.now.extent.now.written in
    let h = c.args.ground.now.frozen.now in
    item_same ws h c.args.ground.now.marks.now cs olds k line c.args.n c.args.f c.args.index j c.in-Holds.place c.in-Holds.value
    (subst (λ l. Looks line (slot_of h c.args.n c.args.f) c.args.index j l) c.in-Holds.is (rw (to_z-of_z w64 c.args.index small) at (c.look_at-look.ensures.looks line j)))

pub returns-then-stays_slowly : goal.returns-then-stays_slowly
returns-then-stays_slowly c = λ cs olds k line j.
    let small : SFits w64 c.args.index = search rules in
    let ws = c.args.ground.now.extent.now.written in
    let h = c.args.ground.now.frozen.now in
    subst (λ l. Looks line (slot_of (sums ws h cs) c.args.n c.args.f) c.args.index j l) c.in-Outside.is
    (subst (λ s. Looks line s c.args.index j c.look_at-look.result) (slot_same ws h (sums ws h cs) (sums_many ws h cs) k.constants c.args.n c.args.f (c.stays_slowly.ensures c.if-stays_slowly.true k.marked))
    (rw (to_z-of_z w64 c.args.index small) at (c.look_at-look.ensures.looks line j)))
