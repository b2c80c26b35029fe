-- What `load` tells of a run: how many objects it left, how many steps it took, and the sum of all numbers that it left.
use Rattle.std.specs.Prelude.{ℕ, ℤ, pos, ◌+ℤ◌, List, [], ◌∷◌, length, flat_map, codes, decimal}
use Rattle.std.specs.Fmt.{signed_decimal}
use Rattle.std.specs.Int.{int_wrap, w64}
use Rattle.ca_model.specs.declared.value.Value.{Value as Datum}
use Rattle.ca_model.specs.declared.value.Value.TheVariants.{Long}
use Rattle.ca_model.specs.declared.value.Slot.{Slot}
use Rattle.ca_model.specs.declared.value.Slot.TheVariants.{One, Many}
use Rattle.ca_model.specs.declared.value.Object.{Object}
use Rattle.ca_model.specs.Lines.{in_a_row}

-- what a value adds to a sum: a number itself, and any other value nothing
abbrev pub number_in : Datum → ℤ
number_in (Long n) = n
number_in other = pos 0

abbrev pub sum_of : List Datum → ℤ
sum_of [] = pos 0
sum_of (v ∷ vs) = number_in v +ℤ sum_of vs

-- the values of a field: one, or the items of an array
abbrev pub values_in : Slot → List Datum
values_in (One v) = v ∷ []
values_in (Many vs) = vs

-- the values of all fields
abbrev pub fields_of : List Slot → List Datum
fields_of slots = flat_map values_in slots

-- the values of all fields of all objects
abbrev pub values_of : List Object → List Datum
values_of heap = flat_map (λ o. fields_of o.slots) heap

-- their sum, as a signed number of 64 bits
abbrev pub total_of : List Object → ℤ
total_of heap = int_wrap w64 (sum_of (values_of heap))

-- the line that tells a heap and the steps that made it
abbrev pub summary_text : List Object → ℕ → List ℕ
summary_text heap steps = in_a_row (
    codes "load objects=" ∷ decimal (length heap) ∷ codes " steps=" ∷ decimal steps
    ∷ codes " total=" ∷ signed_decimal (total_of heap) ∷ codes "\n" ∷ [])
