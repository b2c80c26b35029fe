-- Items by their index: what an index takes, and what stands there.
use Rattle.std.proofs.Common.{◌≡◌, ℕ, suc, Bool, true, false, List, Option, Some, None, ℤ, pos, negsuc, refl, sym, ap, ◌∙◌, arith}
use Rattle.std.specs.Prelude.{slice_get, nat_lt}
use Rattle.std.proofs.lemmas.Bool.Decides.{nat_tests}
use Rattle.ca_model.specs.declared.value.Value.{Value as Datum}
use Rattle.ca_model.specs.declared.value.Value.TheVariants.{Long, Bool as Truth, Null, Ref}
use Rattle.ca_meaning.specs.Expressions.{indexed, found}
use Rattle.ca_symbolic_laws.specs.Costs.{left, value_of, with_left}
use Rattle.ca_symbolic_laws.specs.Demanded.{is_free, is_index}
use Rattle.ca_symbolic_laws.proofs.Budgets.{nothing_left}

abbrev pub number_of : Datum → ℤ
number_of (Long n) = n
number_of d = pos 0

abbrev pub place_of : Datum → ℕ
place_of (Long (pos i)) = i
place_of d = 0

abbrev pub found_if : Bool → Datum → Option Datum
found_if true d = Some d
found_if false d = None

pub no_less : (i : ℕ) → nat_lt i 0 ≡ false
no_less i = grind (arith, nat_tests)

pub more_less : (n : ℕ) → nat_lt 0 (suc n) ≡ true
more_less n = grind (arith, nat_tests)

pub both_less : (i n : ℕ) → nat_lt (suc i) (suc n) ≡ nat_lt i n
both_less i n = grind (arith, nat_tests)

-- n items, which the function tells by their indexes
pub record ItemsAre (items : List Datum) (n : ℕ) (f : ℤ → Datum) : Type 0 where
  pub at : (i : ℕ) → slice_get items i ≡ found_if (nat_lt i n) (f (pos i))

-- an index takes nothing where it is one, and the item is the one that the function tells
pub indexed_is : (line n k : ℕ) (items : List Datum) (f : ℤ → Datum) → ItemsAre items n f → (d : Datum) → value_of (indexed line items d k) ≡ with_left (record { place = place_of d; value = f (number_of d) }) (left (is_index (Some n) d) k)
indexed_is line n k items f are (Long (pos i)) = ap (λ o. value_of (found line i o k)) (are.at i) ∙ at (nat_lt i n)
  where
    at : (b : Bool) → value_of (found line i (found_if b (f (pos i))) k) ≡ with_left (record { place = i; value = f (pos i) }) (left (is_free b) k)
    at true = ap (with_left (record { place = i; value = f (pos i) })) (sym (nothing_left k))
    at false = refl
indexed_is line n k items f are (Long (negsuc i)) = refl
indexed_is line n k items f are (Truth b) = refl
indexed_is line n k items f are Null = refl
indexed_is line n k items f are (Ref r) = refl
