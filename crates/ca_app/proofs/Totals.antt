-- Sums that are added up part by part, as signed numbers of 64 bits.
use Rattle.std.proofs.Common.{◌≡◌, ℕ, ℤ, pos, ◌+◌, ◌+ℤ◌, ◌≤◌, List, [], ◌∷◌, ◌++◌, length, drop, Some, refl, sym, ap, ◌∙◌, to_z, of_z}
use Rattle.std.specs.Prelude.{slice_get, FitsSigned}
use Rattle.std.specs.Int.{int_wrap, w64}
use Rattle.std.proofs.Math.IntN.{+ℤ_assoc, +ℤ_idl, +ℤ_idr}
use Rattle.std.proofs.lemmas.List.{drop_all}
use Rattle.std.proofs.lemmas.Int.{SFits-int_wrap, int_wrap_fits, int_wrap-add_left, to_z-of_z}
use Rattle.ca_model.specs.declared.value.Value.{Value as Datum}
use Rattle.ca_model.proofs.Texts.{drop_there}
use Rattle.ca_app.specs.Summary.{number_in, sum_of, values_in, fields_of, values_of}

-- The sum of parts is the number of the first and then the sum of the others.
pub record IsSum {A : Type 0} (number : A → ℤ) (all : List A → ℤ) : Type 0 where
  pub none : all [] ≡ pos 0
  pub more : (x : A) (xs : List A) → all (x ∷ xs) ≡ number x +ℤ all xs

sum_along : (us vs : List Datum) → sum_of (us ++ vs) ≡ sum_of us +ℤ sum_of vs
sum_along [] vs = sym (+ℤ_idl (sum_of vs))
sum_along (u ∷ us) vs = ap (λ n. number_in u +ℤ n) (sum_along us vs) ∙ sym (+ℤ_assoc (number_in u) (sum_of us) (sum_of vs))

pub sum_of_values : IsSum number_in sum_of
sum_of_values = record { none = refl; more = λ v vs. refl }

pub sum_of_fields : IsSum (λ s. sum_of (values_in s)) (λ slots. sum_of (fields_of slots))
sum_of_fields = record { none = refl; more = λ s slots. sum_along (values_in s) (fields_of slots) }

pub sum_of_objects : IsSum (λ o. sum_of (fields_of o.slots)) (λ heap. sum_of (values_of heap))
sum_of_objects = record { none = refl; more = λ o heap. sum_along (fields_of o.slots) (values_of heap) }

-- what was wrapped is kept in 64 bits as it is
kept : (n z : ℤ) → n ≡ int_wrap w64 z → to_z w64 (of_z w64 n) ≡ int_wrap w64 z
kept n z is = ap (λ m. to_z w64 (of_z w64 m)) is ∙ to_z-of_z w64 (int_wrap w64 z) (SFits-int_wrap w64 z)

module _ {A : Type 0} {number : A → ℤ} {all : List A → ℤ} (sum : IsSum number all) where
  -- a number that is added on the way, as it is kept in 64 bits, and what is still to come
  pub added : (xs : List A) (i : ℕ) (x : A) (total next : ℤ) → slice_get xs i ≡ Some x → next ≡ int_wrap w64 (total +ℤ number x)
      → int_wrap w64 (to_z w64 (of_z w64 next) +ℤ all (drop (i + 1) xs)) ≡ int_wrap w64 (total +ℤ all (drop i xs))
  added xs i x total next found is =
      ap (λ n. int_wrap w64 (n +ℤ all (drop (i + 1) xs))) (kept next (total +ℤ number x) is)
      ∙ int_wrap-add_left w64 (total +ℤ number x) (all (drop (i + 1) xs))
      ∙ ap (int_wrap w64)
      (+ℤ_assoc total (number x) (all (drop (i + 1) xs)) ∙ ap (λ n. total +ℤ n) (sym (sum.more x (drop (i + 1) xs)) ∙ sym (ap all (drop_there xs i x found))))

  -- behind the last part nothing is to come
  pub all_added : (xs : List A) (i : ℕ) (total : ℤ) → length xs ≤ i → FitsSigned w64 total → int_wrap w64 (total +ℤ all (drop i xs)) ≡ total
  all_added xs i total past fits =
      ap (λ ys. int_wrap w64 (total +ℤ all ys)) (drop_all i xs past)
      ∙ ap (int_wrap w64) (ap (λ n. total +ℤ n) sum.none ∙ +ℤ_idr total)
      ∙ int_wrap_fits w64 total fits
