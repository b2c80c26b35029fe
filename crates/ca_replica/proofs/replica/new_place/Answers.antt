use Rattle.std.proofs.Common.{◌≡◌, List, slice_get, Some, sym, ap, subst, ◌∙◌}
use Rattle.ca_beside.specs.declared.beside.Changed.{Changed}
use Rattle.ca_beside.specs.Beside.{present, IsAbsent}
use Rattle.ca_replica.specs.Zeroed.{zeroed, zeroed_heap}
use Rattle.ca_replica.specs.InPlace.{HasCopy}
use Rattle.ca_replica.proofs.Copying.{placed, zeroed_at, copied_same}
use Rattle.ca_replica.proofs.InPlace.{has_added}
use Rattle.ca_replica.proofs.replica.new_place.Goals as goal

pub add-requires : goal.add-requires
add-requires c = subst (λ (cs : List Changed). IsAbsent cs c.args.number) (sym c.in_ok-object.ensures.same) c.requires.none

pub returns-in_err-object-clause-same : goal.returns-in_err-object-clause-same
returns-in_err-object-clause-same c = ap (present (zeroed_heap c.args.extent.now.written c.args.frozen.now)) c.in_err-object.ensures.same

pub returns-clause-place : goal.returns-clause-place
returns-clause-place c = placed c.add.result c.copied.new.self c.add.new.self c.args.number c.zero.new.object c.add.ensures.place c.add.ensures.added

pub returns-clause-same : goal.returns-clause-same
returns-clause-same c =
    let ws = c.args.extent.now.written in
    let h = c.args.frozen.now in
    let n = c.args.number in
    let unchanged = c.in_ok-object.ensures.same in
    let there : slice_get h n ≡ Some c.in_ok-object.object = c.get.ensures ∙ ap Some (sym c.in_ok-object.ensures.is) in
    let is : zeroed ws c.in_ok-object.object ≡ c.zero.new.object = sym (c.zero.ensures ∙ ap (λ fs. zeroed fs c.in_ok-object.object) c.written.ensures) in
    let away : IsAbsent c.copied.new.self n = subst (λ (cs : List Changed). IsAbsent cs n) (sym unchanged) c.requires.none in
    copied_same c.add.result (zeroed_heap ws h) c.copied.new.self c.add.new.self n c.zero.new.object away (zeroed_at ws h n c.in_ok-object.object there ∙ ap Some is) c.add.ensures.added c.add.ensures.kept
    ∙ ap (present (zeroed_heap ws h)) unchanged

pub returns-in_err-object-clause-has : goal.returns-in_err-object-clause-has
returns-in_err-object-clause-has c = λ n h. subst (λ (cs : List Changed). HasCopy cs n) (sym c.in_err-object.ensures.same) h

pub returns-clause-has : goal.returns-clause-has
returns-clause-has c =
    has_added c.add.result c.args.copies.now c.copied.new.self c.add.new.self c.args.number c.zero.new.object c.in_ok-object.ensures.same c.add.ensures.added c.add.ensures.kept
