-- Worked examples: a copy that begins at 0, and its sum, added.
use Rattle.std.proofs.Common.{◌≡◌, ℕ, zero, suc, inl, inr, List, [], ◌∷◌, refl, ap, ◌∙◌, arith, ℤ, pos, ◌+ℤ◌}
use Rattle.std.specs.Prelude.{slice_get}
use Rattle.std.specs.Int.{int_wrap, w64}
use Rattle.std.proofs.lemmas.Int.{int_wrap_fits, ints}
use Rattle.ca_program.specs.declared.program.ClassId.{ClassId}
use Rattle.ca_program.specs.declared.program.FieldId.{FieldId}
use Rattle.ca_model.specs.declared.value.Value.TheVariants.{Long}
use Rattle.ca_model.specs.declared.value.Slot.{Slot}
use Rattle.ca_model.specs.declared.value.Slot.TheVariants.{One}
use Rattle.ca_model.specs.declared.value.Object.{Object}
use Rattle.ca_replica.specs.Zeroed.{zeroed}
use Rattle.ca_replica.specs.Adding.{added, Absent, AreAlike, IsWhole}

-- class Bin { public: long n; long key; void add(long v) { n += v; } };
abbrev bin : ClassId
bin = record { 0 = 0 }

abbrev written : List FieldId
written = record { class = bin; field = 0 } ∷ []

abbrev slots_with : ℤ → ℤ → List Slot
slots_with n key = One (Long n) ∷ One (Long key) ∷ []

abbrev holding : ℤ → ℤ → Object
holding n key = record { class = bin; slots = slots_with n key }

-- a copy of a bin of 5 begins at 0, and keeps its key
begins : zeroed written (holding (pos 5) (pos 7)) ≡ holding (pos 0) (pos 7)
begins = refl

-- of another class nothing is written
others_are_copies : zeroed (record { class = record { 0 = 1 }; field = 0 } ∷ []) (holding (pos 5) (pos 7)) ≡ holding (pos 5) (pos 7)
others_are_copies = refl

eight : int_wrap w64 (pos 5 +ℤ pos 3) ≡ pos 8
eight = let s : pos 5 +ℤ pos 3 ≡ pos 8 = omega (arith, ints) in ap (int_wrap w64) s ∙ int_wrap_fits w64 (pos 8) (omega (arith, ints))

-- sections added 3 to the copy of object 1
three_more : added written (record { number = 1; object = holding (pos 3) (pos 7) } ∷ []) (holding (pos 1) (pos 6) ∷ holding (pos 5) (pos 7) ∷ []) ≡ holding (pos 1) (pos 6) ∷ holding (pos 8) (pos 7) ∷ []
three_more = ap (λ n. holding (pos 1) (pos 6) ∷ holding n (pos 7) ∷ []) eight

-- an object that isn't there takes no sum
none_is_there : added written (record { number = 2; object = holding (pos 3) (pos 7) } ∷ []) (holding (pos 1) (pos 6) ∷ []) ≡ holding (pos 1) (pos 6) ∷ []
none_is_there = refl

-- the copy to which sections added 3 is whole: its key is that of its bin, and both hold a number
same_key : (g : ℕ) → Absent written bin g → slice_get (slots_with (pos 3) (pos 7)) g ≡ slice_get (slots_with (pos 5) (pos 7)) g
same_key zero a = absurd (a.0 (refl, refl))
same_key (suc zero) a = refl
same_key (suc (suc g)) a = refl

both_numbers : (g : ℕ) → AreAlike (slice_get (slots_with (pos 3) (pos 7)) g) (slice_get (slots_with (pos 5) (pos 7)) g)
both_numbers zero = inr (pos 3, pos 5, refl, refl)
both_numbers (suc zero) = inl refl
both_numbers (suc (suc g)) = inl refl

touched_is_whole : IsWhole written (holding (pos 5) (pos 7)) (holding (pos 3) (pos 7))
touched_is_whole = record { class = refl; constants = same_key; alike = both_numbers }
