use Rattle.std.proofs.Common.{◌≡◌, slice_get, Some, sym, ap, subst}
use Rattle.std.proofs.lemmas.Option.{slice_get_within}
use Rattle.ca_model.proofs.Stores.{found}
use Rattle.ca_program.specs.View.{program_view}
use Rattle.ca_beside.proofs.Present.{changed, same_some, distinct, indexed_set}
use Rattle.ca_beside.proofs.Running.{may_have_run, kept_so}
use Rattle.ca_beside.proofs.beside.Beside.run_at.Goals as goal

pub returns-clause-ran : goal.returns-clause-ran
returns-clause-ran c =
    let cs = c.self.inside.changed.items in
    let place = c.args.place in
    let number = c.args.op.now.receiver in
    let here : slice_get cs place ≡ Some (changed number c.requires.object) = subst (λ ds. slice_get ds place ≡ Some (changed number c.requires.object)) (sym c.self.view_is) c.requires.there in
    let found_it : slice_get cs place ≡ Some c.index_mut-receiver.result.now = found cs place c.index_mut-receiver.result.now (slice_get_within cs place _ here) c.index_mut-receiver.ensures.value in
    let same = same_some (slice_get cs place) c.index_mut-receiver.result.now (changed number c.requires.object) found_it here in
    may_have_run c.section.result (program_view c.args.program.now) c.args.heap.now c.self.inside.index.items cs c.args.self.now place c.index_mut-receiver.result.now c.args.op.now c.args.left c.args.waiting.now.items c.section.new.out.items c.section.new.object
    c.self.invariant c.self.view_is found_it (ap (λ z. z.number) same) c.section.ensures.answer

pub returns-clause-kept : goal.returns-clause-kept
returns-clause-kept c =
    let cs = c.self.inside.changed.items in
    let place = c.args.place in
    let number = c.args.op.now.receiver in
    let here : slice_get cs place ≡ Some (changed number c.requires.object) = subst (λ ds. slice_get ds place ≡ Some (changed number c.requires.object)) (sym c.self.view_is) c.requires.there in
    let found_it : slice_get cs place ≡ Some c.index_mut-receiver.result.now = found cs place c.index_mut-receiver.result.now (slice_get_within cs place _ here) c.index_mut-receiver.ensures.value in
    kept_so c.section.result cs c.args.self.now place c.index_mut-receiver.result.now c.section.new.object c.args.waiting.now.items c.section.new.out.items c.self.view_is found_it c.section.ensures.kept

pub returns-clause-once : goal.returns-clause-once
returns-clause-once c =
    let cs = c.self.inside.changed.items in
    let place = c.args.place in
    let number = c.args.op.now.receiver in
    let here : slice_get cs place ≡ Some (changed number c.requires.object) = subst (λ ds. slice_get ds place ≡ Some (changed number c.requires.object)) (sym c.self.view_is) c.requires.there in
    let found_it : slice_get cs place ≡ Some c.index_mut-receiver.result.now = found cs place c.index_mut-receiver.result.now (slice_get_within cs place _ here) c.index_mut-receiver.ensures.value in
    distinct c.self.inside.index.items _ (indexed_set c.self.inside.index.items cs place c.index_mut-receiver.result.now c.section.new.object c.self.invariant found_it)
