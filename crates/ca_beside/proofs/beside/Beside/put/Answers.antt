use Rattle.std.proofs.Common.{◌≡◌, slice_get, slice_set, Some, sym, ap, subst, ◌∙◌}
use Rattle.std.proofs.lemmas.Option.{slice_get_within}
use Rattle.ca_model.proofs.Stores.{found}
use Rattle.ca_beside.specs.Beside.{present}
use Rattle.ca_beside.proofs.Present.{changed, distinct, present_set, present_more, same_some}
use Rattle.ca_beside.proofs.beside.Beside.put.Goals as goal

pub returns-in-Some-clause-put : goal.returns-in-Some-clause-put
returns-in-Some-clause-put c =
    let cs = c.self.inside.changed.items in
    let place = c.in-Some.place in
    let n = c.args.number in
    let is = c.in-Some.ensures in
    let here : slice_get cs place ≡ Some (changed n is.object) = subst (λ ds. slice_get ds place ≡ Some (changed n is.object)) (sym c.self.view_is) is.there in
    let same = same_some (slice_get cs place) c.index_mut-changed.result.now (changed n is.object) (found cs place c.index_mut-changed.result.now (slice_get_within cs place _ here) c.index_mut-changed.ensures.value) here in
    λ h. ap (λ m. present h (slice_set cs place (changed m c.args.object))) (ap (λ z. z.number) same)
    ∙ (present_set h cs (distinct c.self.inside.index.items cs c.self.invariant) place (changed n is.object) c.args.object here ∙ ap (λ ds. slice_set (present h ds) n c.args.object) c.self.view_is)

pub returns-in_ok-add-in-None-clause-put : goal.returns-in_ok-add-in-None-clause-put
returns-in_ok-add-in-None-clause-put c = λ h. ap (present h) c.in_ok-add-in-None.ensures.added ∙ present_more h c.args.self.now (changed c.args.number c.args.object)
