-- Heaps: the objects in the order of their creation, each found by its place.
use Rattle.std.specs.Prelude.{ℕ, zero, suc, ◌+◌, Bool, List, [], ◌∷◌, ◌++◌, length, Option, Some, None, slice_get, nat_le, nat_lt, ◌||◌}
pub use Rattle.ca_program.specs.Fields.{fields_of}
use Rattle.ca_program.specs.declared.program.ClassId.{ClassId}
use Rattle.ca_program.specs.Plain.{PlainProgram}
use Rattle.ca_model.specs.declared.value.Value.{Value as Datum}
use Rattle.ca_model.specs.declared.value.Slot.{Slot}
use Rattle.ca_model.specs.declared.value.Object.{Object}
use Rattle.ca_model.specs.Slots.{slots_len, HasItem, put_slot, start_slots}

-- how many values the objects have together
abbrev pub values_in : List Object → ℕ
values_in [] = 0
values_in (o ∷ os) = slots_len o.slots + values_in os

-- there is such an object, and it has such an item
abbrev pub HasSlot : Option Object → ℕ → ℕ → Type 0
HasSlot None f i = ⊥
HasSlot (Some o) f i = HasItem (slice_get o.slots f) i

-- the heap with the value put into an item of a field of object n
abbrev pub stored : List Object → ℕ → ℕ → ℕ → Datum → List Object
stored [] n f i v = []
stored (o ∷ os) zero f i v = record { class = o.class; slots = put_slot o.slots f i v } ∷ os
stored (o ∷ os) (suc n) f i v = o ∷ stored os n f i v

-- what an object of the class starts with
abbrev pub starts_of : PlainProgram → ClassId → List Slot
starts_of p c = start_slots (fields_of (slice_get p.classes c.0))

-- the most objects of a heap, and the most values that they hold together
abbrev pub most_objects : ℕ
most_objects = 1000000

abbrev pub most_values : ℕ
most_values = 4000000

-- there is no room for one object more, or not for one with these slots
abbrev pub is_full : List Object → List Slot → Bool
is_full h new = nat_le most_objects (length h) || nat_lt most_values (values_in h + slots_len new)

-- the heap with one object more, of starting values
abbrev pub created : PlainProgram → ClassId → List Object → List Object
created p c h = h ++ record { class = c; slots = starts_of p c } ∷ []
