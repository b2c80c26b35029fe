-- Copies in which each number that an extent writes begins at 0, so that it is the sum of what sections added.
use Rattle.std.specs.Prelude.{ℕ, ℤ, pos, List, [], ◌∷◌, map, cond, nat_eq, Option, Some, None, slice_get}
use Rattle.ca_program.specs.declared.program.FieldId.{FieldId}
use Rattle.ca_model.specs.declared.value.Value.TheVariants.{Long}
use Rattle.ca_model.specs.declared.value.Slot.{Slot}
use Rattle.ca_model.specs.declared.value.Slot.TheVariants.{One}
use Rattle.ca_model.specs.declared.value.Object.{Object}
use Rattle.ca_model.specs.Slots.{put_slot}

-- the number that a slot holds
abbrev pub number_at : Option Slot → Option ℤ
number_at (Some (One (Long n))) = Some n
number_at s = None

abbrev pub zeroed_number : List Slot → ℕ → Option ℤ → List Slot
zeroed_number ss f (Some n) = put_slot ss f 0 (Long (pos 0))
zeroed_number ss f None = ss

-- the slots with 0 in the place of this number
abbrev pub zeroed_slot : ℕ → List Slot → List Slot
zeroed_slot f ss = zeroed_number ss f (number_at (slice_get ss f))

abbrev pub zeroed_field : FieldId → Object → Object
zeroed_field f o = record { class = o.class; slots = cond (nat_eq f.class.0 o.class.0) (zeroed_slot f.field o.slots) o.slots }

-- the object with 0 in each number that is written
abbrev pub zeroed : List FieldId → Object → Object
zeroed [] o = o
zeroed (f ∷ fs) o = zeroed fs (zeroed_field f o)

abbrev pub zeroed_heap : List FieldId → List Object → List Object
zeroed_heap fs h = map (zeroed fs) h
