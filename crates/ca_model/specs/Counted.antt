-- What a heap keeps: no more objects and values than there may be, and how many values those are.
use Rattle.std.specs.Prelude.{ℕ, ◌≡◌, ◌≤◌, List, length, map, Option, Some, None}
use Rattle.ca_model.specs.declared.value.Object.{Object}
use Rattle.ca_model.specs.Slots.{slot_len}
use Rattle.ca_model.specs.Heaps.{values_in, most_objects, most_values}

pub record Counted (objects : List Object) (values : ℕ) : Type 0 where
  pub few_objects : length objects ≤ most_objects
  pub few_values : values ≤ most_values
  pub counted : values ≡ values_in objects

-- there is such an object, of the same class and slot lengths
abbrev pub IsLike : Option Object → Object → Type 0
IsLike None new = ⊥
IsLike (Some o) new = (o.class ≡ new.class) × (map slot_len o.slots ≡ map slot_len new.slots)
