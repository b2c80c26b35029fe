use Rattle.std.proofs.Common.{◌≡◌, List, ap, sym, subst, ◌∙◌}
use Rattle.ca_program.specs.declared.program.FieldId.{FieldId}
use Rattle.ca_beside.specs.declared.beside.Changed.{Changed}
use Rattle.ca_beside.specs.Beside.{present}
use Rattle.ca_beside.proofs.Present.{if_ok}
use Rattle.ca_replica.specs.Adding.{added, Once, AreWhole}
use Rattle.ca_replica.proofs.replica.Replica.move_beside.Goals as goal

pub take_copies-requires-clause-once : goal.take_copies-requires-clause-once
take_copies-requires-clause-once c = subst Once (sym c.written.ensures) c.requires.once

pub take_copies-requires-clause-whole : goal.take_copies-requires-clause-whole
take_copies-requires-clause-whole c =
    let h = c.args.heap.now in
    subst (λ (ws : List FieldId). AreWhole ws h c.into_items-items.result.items) (sym c.written.ensures)
    (subst (λ (cs : List Changed). AreWhole c.args.extent.now.written h cs) (sym c.into_items-items.ensures.items) c.requires.whole)

pub returns : goal.returns
returns c =
    let h = c.args.heap.now in
    let ws = c.args.extent.now.written in
    let items = c.into_items-items.result.items in
    let now = c.into_items-items.new.other in
    let end = c.take_copies.new.beside in
    if_ok (λ _. present h end ≡ added c.written.result.now items (present h now)) (λ _. present h end ≡ added ws c.args.self.copies (present h c.args.beside.now)) c.take_copies.result
    (λ _ e. e ∙ (ap (λ (zs : List FieldId). added zs items (present h now)) c.written.ensures ∙ (ap (λ (cs : List Changed). added ws cs (present h now)) c.into_items-items.ensures.items ∙ ap (λ (cs : List Changed). added ws c.args.self.copies (present h cs)) c.into_items-items.ensures.other)))
    c.take_copies.ensures
