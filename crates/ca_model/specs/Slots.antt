-- Slots, their items, and what they start with.
use Rattle.std.specs.Prelude.{ℕ, zero, suc, ◌+◌, ◌<◌, List, [], ◌∷◌, length, map, replicate, slice_set, Option, Some, None, pos, false}
use Rattle.ca_program.specs.declared.program.ValueType.{ValueType}
use Rattle.ca_program.specs.declared.program.ValueType.TheVariants.{Long as LongType, Bool as BoolType, Pointer}
use Rattle.ca_program.specs.declared.program.FieldInfo.{FieldInfo}
use Rattle.ca_model.specs.declared.value.Value.{Value as Datum}
use Rattle.ca_model.specs.declared.value.Value.TheVariants.{Long, Bool as Truth, Null}
use Rattle.ca_model.specs.declared.value.Slot.{Slot}
use Rattle.ca_model.specs.declared.value.Slot.TheVariants.{One, Many}

-- how many values a slot holds
abbrev pub slot_len : Slot → ℕ
slot_len (One v) = 1
slot_len (Many vs) = length vs

abbrev pub slots_len : List Slot → ℕ
slots_len [] = 0
slots_len (s ∷ ss) = slot_len s + slots_len ss

-- the field is there, and has such an item
abbrev pub HasItem : Option Slot → ℕ → Type 0
HasItem None i = ⊥
HasItem (Some s) i = i < slot_len s

-- the value of a field that is no array, and null where there is none
abbrev pub one_in : Option Slot → Datum
one_in None = Null
one_in (Some (One v)) = v
one_in (Some (Many vs)) = Null

-- a single value is item 0
abbrev pub put_item : Slot → ℕ → Datum → Slot
put_item (One old) i v = One v
put_item (Many vs) i v = Many (slice_set vs i v)

abbrev pub put_slot : List Slot → ℕ → ℕ → Datum → List Slot
put_slot [] f i v = []
put_slot (s ∷ ss) zero i v = put_item s i v ∷ ss
put_slot (s ∷ ss) (suc f) i v = s ∷ put_slot ss f i v

-- the value that a field or a local of the type starts with
abbrev pub start_of : ValueType → Datum
start_of LongType = Long (pos 0)
start_of BoolType = Truth false
start_of (Pointer c) = Null

abbrev pub start_slot : ValueType → Option ℕ → Slot
start_slot ty None = One (start_of ty)
start_slot ty (Some n) = Many (replicate n (start_of ty))

abbrev pub start_slots : List FieldInfo → List Slot
start_slots fields = map (λ f. start_slot f.ty f.length) fields
