-- Copies that take the places of their objects.
use Rattle.std.proofs.Common.{◌≡◌, ◌⊎◌, inl, inr, ℕ, suc, List, [], ◌∷◌, ◌++◌, length, reverse, Option, Some, None, refl, ap, sym, subst, ◌∙◌, arith, ℤ, pos, ◌+ℤ◌}
use Rattle.std.specs.Prelude.{slice_get, slice_set}
use Rattle.std.specs.Int.{int_wrap, w64}
use Rattle.std.proofs.lemmas.Int.{ints}
use Rattle.std.proofs.lemmas.List.{reverse-append}
use Rattle.ca_lists.proofs.Places.{same_by_places}
use Rattle.ca_program.specs.declared.program.FieldId.{FieldId}
use Rattle.ca_model.specs.declared.value.Value.TheVariants.{Long, Bool as Truth, Null, Ref}
use Rattle.ca_model.specs.declared.value.Slot.{Slot}
use Rattle.ca_model.specs.declared.value.Slot.TheVariants.{One, Many}
use Rattle.ca_model.specs.declared.value.Object.{Object}
use Rattle.ca_beside.specs.declared.beside.Changed.{Changed}
use Rattle.ca_beside.specs.Beside.{present, IsAbsent}
use Rattle.ca_beside.proofs.Present.{changed, present_more, present_absent}
use Rattle.ca_sum_laws.specs.Moves.{plus}
use Rattle.ca_sum_laws.proofs.Heaps.{moved_object, moved_slot_at}
use Rattle.ca_replica.specs.Zeroed.{zeroed}
use Rattle.ca_replica.specs.Adding.{sums_in, added_object, added, Absent, Once, IsCopy, AreAlike, IsWhole, IsWholeOf, AreWhole}
use Rattle.ca_replica.proofs.Sums.{Hit, look, sum_one, zero_one, numbered, sums_absent, sums_hit, zero_hit, slots_of, object_of, added_set}

-- ---- a sum is the same either way

either_way : (a b : ℤ) → a +ℤ b ≡ b +ℤ a
either_way a b = omega (arith, ints)

numbers_turned : (s t : Option Slot) (a b : ℤ) → s ≡ Some (One (Long a)) → t ≡ Some (One (Long b)) → sum_one s t ≡ sum_one t s
numbers_turned s t a b e d =
    ap (λ z. sum_one z t) e ∙ (ap (λ z. sum_one (Some (One (Long a))) z) d ∙ (ap (λ x. Some (One (Long (int_wrap w64 x)))) (either_way a b) ∙ sym (ap (λ z. sum_one z s) d ∙ ap (λ z. sum_one (Some (One (Long b))) z) e)))

sum_turned : (s t : Option Slot) → AreAlike s t → sum_one s t ≡ sum_one t s
sum_turned s t (inl e) = ap (λ z. sum_one z t) e ∙ ap (λ z. sum_one t z) (sym e)
sum_turned s t (inr k) = numbers_turned s t k.0 k.1 (numbered s k.0 k.2) (numbered t k.1 k.3)

-- the object's numbers, added to a whole copy, make what the copy's, added to the object, make
turned_sums : (fs : List FieldId) → Once fs → (first copy : Object) → IsWhole fs first copy → sums_in fs first.class first.slots copy.slots ≡ sums_in fs copy.class copy.slots first.slots
turned_sums fs once first copy i = same_by_places _ _ (λ g. from g (look fs once first.class g))
  where
    from : (g : ℕ) → Hit first.class g fs ⊎ Absent fs first.class g → slice_get (sums_in fs first.class first.slots copy.slots) g ≡ slice_get (sums_in fs copy.class copy.slots first.slots) g
    from g (inl h) =
        sums_hit first.class g first.slots fs copy.slots h
        ∙ (sum_turned (slice_get copy.slots g) (slice_get first.slots g) (i.alike g)
        ∙ sym (sums_hit copy.class g copy.slots fs first.slots (subst (λ k. Hit k g fs) (sym i.class) h)))
    from g (inr a) =
        sums_absent fs first.class g first.slots copy.slots a
        ∙ (i.constants g a
        ∙ sym (sums_absent fs copy.class g copy.slots first.slots (subst (λ k. Absent fs k g) (sym i.class) a)))

-- A whole copy with the object's numbers added, put beside the heap, is the object with the copy's sums.
pub taken_over : (ws : List FieldId) → Once ws → (n : ℕ) (copy first : Object) (h : List Object) (cs new : List Changed) (ss : List Slot) → IsAbsent cs n → slice_get h n ≡ Some first → IsWhole ws first copy
    → ss ≡ sums_in ws first.class first.slots copy.slots → new ≡ cs ++ changed n (object_of copy.class ss) ∷ [] → present h new ≡ added_object ws n copy (present h cs)
taken_over ws once n copy first h cs new ss away there i sums is =
    let slots : ss ≡ sums_in ws copy.class copy.slots first.slots = sums ∙ turned_sums ws once first copy i in
    let same : object_of copy.class ss ≡ object_of first.class (sums_in ws copy.class copy.slots first.slots) =
    ap (λ z. object_of copy.class z) slots ∙ ap (λ z. object_of z (sums_in ws copy.class copy.slots first.slots)) i.class in
    ap (present h) is
    ∙ (present_more h cs (changed n (object_of copy.class ss))
    ∙ (ap (λ z. slice_set (present h cs) n z) same
    ∙ sym (added_set ws n copy (present h cs) first (present_absent h cs n away ∙ there))))

-- ---- one copy after the other

turned : (cs rest : List Changed) (c : Changed) → cs ≡ rest ++ c ∷ [] → reverse cs ≡ c ∷ reverse rest
turned cs rest c e = ap reverse e ∙ reverse-append rest (c ∷ [])

-- the copies that are left, the first one last, and what they make of what is beside the heap now
abbrev pub Leaves : List FieldId → List Object → List Object → List Changed → List Object → Type 0
Leaves ws h end cs now = (added ws (reverse cs) now ≡ end) × AreWhole ws h (reverse cs)

pub none_taken : (ws : List FieldId) (h now : List Object) (all cs : List Changed) → reverse cs ≡ all → AreWhole ws h all → Leaves ws h (added ws all now) cs now
none_taken ws h now all cs e i = (ap (λ (l : List Changed). added ws l now) e, subst (AreWhole ws h) (sym e) i)

pub next_whole : (ws : List FieldId) (h end now : List Object) (cs rest : List Changed) (c : Changed) → cs ≡ rest ++ c ∷ [] → Leaves ws h end cs now → IsWholeOf ws h c
next_whole ws h end now cs rest c e i = (subst (AreWhole ws h) (turned cs rest c e) i.1).0

pub next_taken : (ws : List FieldId) (h end now next : List Object) (cs rest : List Changed) (c : Changed) → cs ≡ rest ++ c ∷ [] → next ≡ added_object ws c.number c.object now → Leaves ws h end cs now → Leaves ws h end rest next
next_taken ws h end now next cs rest c e is i =
    let t = turned cs rest c e in (
      ap (added ws (reverse rest)) is ∙ (ap (λ (l : List Changed). added ws l now) (sym t) ∙ i.0),
      (subst (AreWhole ws h) t i.1).1,
    )

pub all_taken : (ws : List FieldId) (h end now : List Object) (cs : List Changed) (n : ℕ) → n ≡ 0 → n ≡ length cs → Leaves ws h end cs now → now ≡ end
all_taken ws h end now [] n z e i = i.0
all_taken ws h end now (c ∷ cs) n z e i = absurd (omega (arith, z, e))

-- ---- which copies are whole

from_zero : (s : Option Slot) (d : ℤ) → AreAlike (plus (zero_one s) d) s
from_zero None d = inl refl
from_zero (Some (One (Long n))) d = inr (int_wrap w64 (pos 0 +ℤ d), n, refl, refl)
from_zero (Some (One (Truth b))) d = inl refl
from_zero (Some (One Null)) d = inl refl
from_zero (Some (One (Ref b))) d = inl refl
from_zero (Some (Many vs)) d = inl refl

-- a copy whose numbers moved since they began at 0
pub moved_whole : (fs : List FieldId) → Once fs → (first copy : Object) (d : ℕ → ℤ) → IsCopy fs first copy → moved_object d (zeroed fs first) ≡ copy → IsWhole fs first copy
moved_whole fs once first copy d k is = record { class = k.class; constants = k.constants; alike = λ g. from g (look fs once first.class g) }
  where
    moved : (g : ℕ) → slice_get copy.slots g ≡ plus (slice_get (slots_of (zeroed fs first)) g) (d g)
    moved g = ap (λ (z : Object). slice_get z.slots g) (sym is) ∙ moved_slot_at d (slots_of (zeroed fs first)) g

    from : (g : ℕ) → Hit first.class g fs ⊎ Absent fs first.class g → AreAlike (slice_get copy.slots g) (slice_get first.slots g)
    from g (inl h) =
        subst (λ s. AreAlike s (slice_get first.slots g)) (sym (moved g ∙ ap (λ s. plus s (d g)) (zero_hit first.class g fs first refl h))) (from_zero (slice_get first.slots g) (d g))
    from g (inr a) = inl (k.constants g a)

pub each_whole : (ws : List FieldId) (h : List Object) (cs : List Changed) → ((i : ℕ) (c : Changed) → slice_get cs i ≡ Some c → IsWholeOf ws h c) → AreWhole ws h cs
each_whole ws h [] f = tt
each_whole ws h (c ∷ cs) f = (f 0 c refl, each_whole ws h cs (λ i. f (suc i)))
