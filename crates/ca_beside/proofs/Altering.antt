-- A change of an object beside the heap, in its place.
use Rattle.std.proofs.Common.{◌≡◌, ◌<◌, ℕ, List, length, Some, ap, sym, subst, ◌∙◌, arith}
use Rattle.std.specs.Prelude.{slice_get, slice_set}
use Rattle.std.proofs.lemmas.Option.{slice_get_within}
use Rattle.ca_lists.proofs.Places.{item_there}
use Rattle.ca_model.specs.declared.value.Object.{Object}
use Rattle.ca_beside.specs.declared.beside.Changed.{Changed}
use Rattle.ca_beside.specs.Beside.{present, IsPlace, Indexed}
use Rattle.ca_beside.proofs.Present.{changed, distinct, present_at, present_length, present_set, same_some}

-- The changed object at a place is changed again: so it is in whatever heap the changed objects stand beside.
pub altered_at : (makes : Object → Object) (index : List ℕ) (cs old : List Changed) (place : ℕ) (c : Changed) (after : Object) → Indexed index cs → cs ≡ old → slice_get cs place ≡ Some c → after ≡ makes c.object →
    (n : ℕ) (o : Object) (h : List Object) → IsPlace old place n → slice_get (present h old) n ≡ Some o → present h (slice_set cs place (changed c.number after)) ≡ slice_set (present h old) n (makes o)
altered_at makes index cs old place c after x same there is n o h at found =
    let here : slice_get cs place ≡ Some (changed n at.object) = subst (λ (ds : List Changed). slice_get ds place ≡ Some (changed n at.object)) (sym same) at.there in
    let number : c.number ≡ n = ap (λ (z : Changed). z.number) (same_some (slice_get cs place) c (changed n at.object) there here) in
    let now : slice_get (present h cs) n ≡ Some o = subst (λ (ds : List Changed). slice_get (present h ds) n ≡ Some o) (sym same) found in
    let lt : n < length h = omega (arith, slice_get_within (present h cs) n o now, present_length h cs) in
    let old_one = item_there h n lt in
    let old_there : slice_get h c.number ≡ Some old_one.0 = ap (slice_get h) number ∙ old_one.1 in
    let d = distinct index cs x in
    let object : slice_get (present h cs) n ≡ Some c.object = subst (λ k. slice_get (present h cs) k ≡ Some c.object) number (present_at h cs d place c there old_one.0 old_there) in
    let makes_it : after ≡ makes o = is ∙ ap makes (same_some (slice_get (present h cs) n) c.object o object now) in
    present_set h cs d place c after there
    ∙ (ap (λ k. slice_set (present h cs) k after) number ∙ (ap (λ z. slice_set (present h cs) n z) makes_it ∙ ap (λ (ds : List Changed). slice_set (present h ds) n (makes o)) same))
