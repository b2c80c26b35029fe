-- The texts of values and of the heap.
use Rattle.std.specs.Prelude.{ℕ, ◌+◌, List, [], ◌∷◌, ◌++◌, true, false, Option, Some, None, slice_get, codes, decimal}
use Rattle.std.specs.Fmt.{signed_decimal}
use Rattle.ca_program.specs.declared.program.FieldInfo.{FieldInfo}
use Rattle.ca_program.specs.Plain.{PlainProgram, PlainClass}
use Rattle.ca_model.specs.declared.value.Value.{Value as Datum}
use Rattle.ca_model.specs.declared.value.Value.TheVariants.{Long, Bool as Truth, Null, Ref}
use Rattle.ca_model.specs.declared.value.Slot.{Slot}
use Rattle.ca_model.specs.declared.value.Slot.TheVariants.{One, Many}
use Rattle.ca_model.specs.declared.value.Object.{Object}

abbrev pub value_text : Datum → List ℕ
value_text (Long n) = signed_decimal n
value_text (Truth true) = codes "true"
value_text (Truth false) = codes "false"
value_text Null = codes "null"
value_text (Ref n) = codes "#" ++ decimal n

-- the values behind the first, each after a comma
abbrev pub further_values_text : List Datum → List ℕ
further_values_text [] = []
further_values_text (v ∷ vs) = codes "," ++ value_text v ++ further_values_text vs

abbrev pub values_text : List Datum → List ℕ
values_text [] = []
values_text (v ∷ vs) = value_text v ++ further_values_text vs

abbrev pub slot_text : Slot → List ℕ
slot_text (One v) = value_text v
slot_text (Many vs) = codes "[" ++ values_text vs ++ codes "]"

abbrev pub field_text : FieldInfo → Slot → List ℕ
field_text f slot = codes " " ++ f.name ++ codes "=" ++ slot_text slot

abbrev pub fields_text : List FieldInfo → List Slot → List ℕ
fields_text [] slots = []
fields_text (f ∷ fs) [] = []
fields_text (f ∷ fs) (slot ∷ slots) = field_text f slot ++ fields_text fs slots

abbrev pub class_text : Option PlainClass → List Slot → List ℕ
class_text None slots = []
class_text (Some c) slots = codes " " ++ c.name ++ fields_text c.fields slots

-- a line for object n
abbrev pub object_text : PlainProgram → ℕ → Object → List ℕ
object_text p n o = codes "#" ++ decimal n ++ class_text (slice_get p.classes o.class.0) o.slots ++ 10 ∷ []

-- lines for the objects, the first of which has the number n
abbrev pub objects_text : PlainProgram → ℕ → List Object → List ℕ
objects_text p n [] = []
objects_text p n (o ∷ os) = object_text p n o ++ objects_text p (n + 1) os

abbrev pub heap_text : PlainProgram → List Object → List ℕ
heap_text p h = objects_text p 0 h
