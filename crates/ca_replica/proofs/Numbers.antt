-- A number in a copy, and what comes of a put in its place.
use Rattle.std.proofs.Common.{◌≡◌, ◌<◌, ◌≤◌, ⊎_elim, ℕ, ℤ, List, Some, length, ap, sym, subst, ◌∙◌, arith, w64}
use Rattle.std.specs.Prelude.{slice_get, Contains}
use Rattle.std.proofs.lemmas.Int.{to_z-of_z}
use Rattle.std.proofs.lemmas.Bool.{cases_lt}
use Rattle.std.proofs.lemmas.Option.{slice_get_past}
use mir.Val.{SFits, of_z, to_z}
use Rattle.ca_lists.proofs.Places.{item_there}
use Rattle.ca_program.specs.declared.program.FieldId.{FieldId}
use Rattle.ca_model.specs.declared.value.Object.{Object}
use Rattle.ca_model.specs.declared.value.Value.TheVariants.{Long}
use Rattle.ca_model.specs.Heaps.{HasSlot, stored}
use Rattle.ca_meaning.specs.Expressions.{one_in, slot_of, slots_in}
use Rattle.ca_beside.specs.declared.beside.Changed.{Changed}
use Rattle.ca_beside.specs.Beside.{present}
use Rattle.ca_beside.proofs.Present.{changed, present_at, present_length}
use Rattle.ca_undo.specs.declared.puts.Put.{Put}
use Rattle.ca_undo.specs.Puts.{put_back, restored}
use Rattle.ca_undo.proofs.Restoring.{put_back_nowhere, put_undone_by}
use Rattle.ca_steps.specs.Telling.{Adds}
use Rattle.ca_replica.specs.Applied.{sums}
use Rattle.ca_undo.specs.Hands.{IsTop}
use Rattle.ca_replica.specs.InPlace.{HasNumber, IsWritten, KeepsClasses}
use Rattle.ca_replica.proofs.InPlace.{copy_there, field_at, long_has, long_item, restored_over, restored_past, stored_past}

-- beside a heap with such an object the copy is found in its place
found_number : (h : List Object) (cs : List Changed) (place n g : ℕ) (a : ℤ) (k : HasNumber cs place n g a) → n < length h → slice_get (present h cs) n ≡ Some k.object
found_number h cs place n g a k lt = let first = item_there h n lt in present_at h cs k.apart place (changed n k.object) k.there first.0 first.1

-- so it has such an item
slot_there : (h : List Object) (cs : List Changed) (place n g : ℕ) (a : ℤ) → HasNumber cs place n g a → n < length h → HasSlot (slice_get (present h cs) n) g 0
slot_there h cs place n g a k lt = subst (λ z. HasSlot z g 0) (sym (found_number h cs place n g a k lt)) (long_has (slice_get k.object.slots g) a k.number)

past_copies : (h : List Object) (cs : List Changed) (n : ℕ) → length h ≤ n → length (present h cs) ≤ n
past_copies h cs n le = let many : length (present h cs) ≡ length h = present_length h cs in omega (arith, le, many)

-- what is added to it is added to that of the sums
pub number_adds : (written : List FieldId) (frozen : List Object) (cs : List Changed) (place n : ℕ) (f : FieldId) (a more m : ℤ) → HasNumber cs place n f.field a → n < length frozen → Adds (Long a) more m → Adds (one_in (slot_of (sums written frozen cs) n f)) more m
number_adds written frozen cs place n f a more m k lt e =
    subst (λ v. Adds v more m) (sym (ap (λ s. one_in (slice_get (slots_in s) f.field)) (copy_there written frozen cs k.apart place n k.object lt k.there) ∙ k.number)) e

-- the sum of two numbers of 64 bits
pub told_sum : (a more sum : ℤ) → SFits w64 a → SFits w64 more → SFits w64 sum → Adds (Long (to_z w64 (of_z w64 a))) (to_z w64 (of_z w64 more)) sum → Adds (Long a) more (to_z w64 (of_z w64 sum))
told_sum a more sum had fits small e =
    let total : Adds (Long a) more sum = rw (to_z-of_z w64 a had, to_z-of_z w64 more fits) at e in
    subst (Adds (Long a) more) (sym (to_z-of_z w64 sum small)) total

-- a field of its class that is written is one of its object
pub number_written : (written : List FieldId) (frozen : List Object) (cs : List Changed) (place n g : ℕ) (a : ℤ) (k : HasNumber cs place n g a) → n < length frozen → KeepsClasses frozen (sums written frozen cs) → Contains written (field_at k.object.class g) → IsWritten written frozen n g
number_written written frozen cs place n g a k lt classes at =
    let first = item_there frozen n lt in
    let o : Object = first.0 in
    let same : k.object.class ≡ o.class = classes n o k.object first.1 (copy_there written frozen cs k.apart place n k.object lt k.there) in
    record { object = o; there = first.1; put = subst (λ c. Contains written (field_at c g)) same at }

-- where it was kept last, a put to it changes nothing of what putting back gives
pub number_over : (h : List Object) (cs : List Changed) (place n g : ℕ) (a m : ℤ) (olds : List Put) → HasNumber cs place n g a → IsTop olds n g 0 → restored olds (stored (present h cs) n g 0 (Long m)) ≡ restored olds (present h cs)
number_over h cs place n g a m olds k top =
    ⊎_elim (λ lt. restored_over olds (present h cs) n g 0 (Long m) top (slot_there h cs place n g a k lt)) (λ le. restored_past olds (present h cs) n g 0 (Long m) (past_copies h cs n le)) (cases_lt n (length h))

abbrev pub number_put : ℕ → ℕ → ℤ → Put
number_put n g a = record { object = n; field = g; item = 0; value = Long a }

-- and put back it undoes a put
pub number_back : (h : List Object) (cs : List Changed) (place n g : ℕ) (a m : ℤ) → HasNumber cs place n g a → put_back (number_put n g a) (stored (present h cs) n g 0 (Long m)) ≡ present h cs
number_back h cs place n g a m k = ⊎_elim within behind (cases_lt n (length h))
  where
    within : n < length h → put_back (number_put n g a) (stored (present h cs) n g 0 (Long m)) ≡ present h cs
    within lt =
        put_undone_by (present h cs) k.object n g 0 (Long m) (Long a) (slot_there h cs place n g a k lt) (found_number h cs place n g a k lt) (sym (long_item (slice_get k.object.slots g) a k.number))

    behind : length h ≤ n → put_back (number_put n g a) (stored (present h cs) n g 0 (Long m)) ≡ present h cs
    behind le =
        let far : length (present h cs) ≤ n = past_copies h cs n le in
        ap (put_back (number_put n g a)) (stored_past (present h cs) n g 0 (Long m) far)
        ∙ sym (put_back_nowhere (present h cs) (number_put n g a) (λ s. subst (λ z. HasSlot z g 0) (slice_get_past (present h cs) n far) s))
