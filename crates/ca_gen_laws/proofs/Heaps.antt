-- The objects of a heap in which something was stored, and how many nodes of it aren't marked.
use Rattle.std.proofs.Common.{◌≡◌, ℕ, zero, suc, ◌+◌, ◌≤◌, List, [], ◌∷◌, length, true, false, refl, ap, subst, arith}
use Rattle.std.specs.Prelude.{Option, Some, None, slice_get}
use Rattle.ca_model.specs.declared.value.Value.{Value as Datum}
use Rattle.ca_model.specs.declared.value.Value.TheVariants.{Long, Bool as Truth, Null, Ref}
use Rattle.ca_model.specs.declared.value.Slot.{Slot}
use Rattle.ca_model.specs.declared.value.Slot.TheVariants.{One, Many}
use Rattle.ca_model.specs.declared.value.Object.{Object}
use Rattle.ca_model.specs.Slots.{put_slot}
use Rattle.ca_model.specs.Heaps.{stored}

pub some_object : {o x : Object} → ◌≡◌ {A = Option Object} (Some o) (Some x) → o ≡ x
some_object e = cc

abbrev changed : Object → ℕ → ℕ → Datum → Object
changed o f i v = record { class = o.class; slots = put_slot o.slots f i v }

pub stored_there : (h : List Object) (n f i : ℕ) (v : Datum) (o : Object) → slice_get h n ≡ Some o → slice_get (stored h n f i v) n ≡ Some (changed o f i v)
stored_there [] n f i v o e = absurd cc
stored_there (x ∷ h) zero f i v o e = ap (λ z. Some (changed z f i v)) (some_object e)
stored_there (x ∷ h) (suc n) f i v o e = stored_there h n f i v o e

pub stored_elsewhere : (h : List Object) (n m f i : ℕ) (v : Datum) → (m ≡ n → ⊥) → slice_get (stored h n f i v) m ≡ slice_get h m
stored_elsewhere [] n m f i v other = refl
stored_elsewhere (x ∷ h) zero zero f i v other = absurd (other refl)
stored_elsewhere (x ∷ h) zero (suc m) f i v other = refl
stored_elsewhere (x ∷ h) (suc n) zero f i v other = refl
stored_elsewhere (x ∷ h) (suc n) (suc m) f i v other = stored_elsewhere h n m f i v (λ e. other (ap suc e))

pub stored_length : (h : List Object) (n f i : ℕ) (v : Datum) → length (stored h n f i v) ≡ length h
stored_length [] n f i v = refl
stored_length (x ∷ h) zero f i v = refl
stored_length (x ∷ h) (suc n) f i v = omega (arith, stored_length h n f i v)

-- 1 where the first field is a mark that isn't set
abbrev pub unset : Option Slot → ℕ
unset (Some (One (Truth false))) = 1
unset (Some (One (Truth true))) = 0
unset (Some (One (Long n))) = 0
unset (Some (One Null)) = 0
unset (Some (One (Ref n))) = 0
unset (Some (Many vs)) = 0
unset None = 0

abbrev pub unmarked : List Object → ℕ
unmarked [] = 0
unmarked (o ∷ os) = unset (slice_get o.slots 0) + unmarked os

unset_one : (s : Option Slot) → unset s ≤ 1
unset_one (Some (One (Truth false))) = omega arith
unset_one (Some (One (Truth true))) = omega arith
unset_one (Some (One (Long n))) = omega arith
unset_one (Some (One Null)) = omega arith
unset_one (Some (One (Ref n))) = omega arith
unset_one (Some (Many vs)) = omega arith
unset_one None = omega arith

pub few_unmarked : (h : List Object) → unmarked h ≤ length h
few_unmarked [] = omega arith
few_unmarked (o ∷ os) = omega (arith, unset_one (slice_get o.slots 0), few_unmarked os)

pub unmarked_stored : (h : List Object) (n f i : ℕ) (v : Datum) (o : Object) → slice_get h n ≡ Some o
    → unmarked (stored h n f i v) + unset (slice_get o.slots 0) ≡ unmarked h + unset (slice_get (put_slot o.slots f i v) 0)
unmarked_stored [] n f i v o e = absurd cc
unmarked_stored (x ∷ h) zero f i v o e =
    let P : Object → Type 0 = λ z. unmarked (stored (x ∷ h) zero f i v) + unset (slice_get z.slots 0) ≡ unmarked (x ∷ h) + unset (slice_get (put_slot z.slots f i v) 0) in
    let own : P x = omega arith in
    subst P (some_object e) own
unmarked_stored (x ∷ h) (suc n) f i v o e = omega (arith, unmarked_stored h n f i v o e)
