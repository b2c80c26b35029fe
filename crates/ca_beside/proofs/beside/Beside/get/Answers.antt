use Rattle.std.proofs.Common.{◌≡◌, slice_get, Some, sym, ap, subst, ◌∙◌}
use Rattle.std.proofs.lemmas.Option.{slice_get_within}
use Rattle.ca_lists.proofs.Places.{item_there}
use Rattle.ca_model.proofs.Stores.{found}
use Rattle.ca_beside.specs.Beside.{present}
use Rattle.ca_beside.proofs.Present.{changed, distinct, present_at, present_absent, same_some}
use Rattle.ca_beside.proofs.beside.Beside.get.Goals as goal

pub returns-in-Some : goal.returns-in-Some
returns-in-Some c =
    let h = c.args.heap.now in
    let cs = c.self.inside.changed.items in
    let place = c.in-Some.place in
    let n = c.args.number in
    let is = c.in-Some.ensures in
    let here : slice_get cs place ≡ Some (changed n is.object) = subst (λ ds. slice_get ds place ≡ Some (changed n is.object)) (sym c.self.view_is) is.there in
    let same = same_some (slice_get cs place) c.index.result.now (changed n is.object) (found cs place c.index.result.now (slice_get_within cs place _ here) c.index.ensures) here in
    let old = item_there h n c.requires in
    ap (λ ds. slice_get (present h ds) n) (sym c.self.view_is)
    ∙ (present_at h cs (distinct c.self.inside.index.items cs c.self.invariant) place (changed n is.object) here old.0 old.1 ∙ ap (λ z. Some z.object) (sym same))

pub returns-in-None : goal.returns-in-None
returns-in-None c = present_absent c.args.heap.now c.args.self.now c.args.number c.in-None.ensures ∙ c.get.ensures
