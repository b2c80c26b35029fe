-- Typed heaps: each slot has its field's type and length, and each pointer is null or names an object of its class.
use Rattle.std.specs.Prelude.{ℕ, ◌≡◌, List, [], ◌∷◌, length, Option, Some, None, slice_get, FitsSigned}
use Rattle.std.specs.Int.{w64}
use Rattle.ca_program.specs.declared.program.ValueType.{ValueType}
use Rattle.ca_program.specs.declared.program.ValueType.TheVariants.{Long as LongType, Bool as BoolType, Pointer}
use Rattle.ca_program.specs.declared.program.FieldInfo.{FieldInfo}
use Rattle.ca_program.specs.declared.program.ClassId.{ClassId}
use Rattle.ca_program.specs.Plain.{PlainProgram, PlainClass}
use Rattle.ca_model.specs.declared.value.Value.{Value as Datum}
use Rattle.ca_model.specs.declared.value.Value.TheVariants.{Long, Bool as Truth, Null, Ref}
use Rattle.ca_model.specs.declared.value.Slot.{Slot}
use Rattle.ca_model.specs.declared.value.Slot.TheVariants.{One, Many}
use Rattle.ca_model.specs.declared.value.Object.{Object}

abbrev pub IsOfClass : Option Object → ClassId → Type 0
IsOfClass None c = ⊥
IsOfClass (Some o) c = o.class ≡ c

-- the value has the type in the heap
abbrev pub HasType : List Object → Datum → ValueType → Type 0
HasType h (Long n) LongType = FitsSigned w64 n
HasType h (Truth b) BoolType = Unit {0}
HasType h Null (Pointer c) = Unit {0}
HasType h (Ref n) (Pointer c) = IsOfClass (slice_get h n) c
HasType h _ _ = ⊥

abbrev pub AllHaveType : List Object → List Datum → ValueType → Type 0
AllHaveType h [] ty = Unit {0}
AllHaveType h (v ∷ vs) ty = HasType h v ty × AllHaveType h vs ty

abbrev pub SlotTyped : List Object → Slot → ValueType → Option ℕ → Type 0
SlotTyped h (One v) ty None = HasType h v ty
SlotTyped h (Many vs) ty (Some n) = (length vs ≡ n) × AllHaveType h vs ty
SlotTyped h _ ty _ = ⊥

abbrev pub SlotsTyped : List Object → List Slot → List FieldInfo → Type 0
SlotsTyped h [] [] = Unit {0}
SlotsTyped h (s ∷ ss) (f ∷ fs) = SlotTyped h s f.ty f.length × SlotsTyped h ss fs
SlotsTyped h _ _ = ⊥

abbrev pub ObjectTyped : List Object → Option PlainClass → List Slot → Type 0
ObjectTyped h None ss = ⊥
ObjectTyped h (Some c) ss = SlotsTyped h ss c.fields

abbrev pub EachTyped : PlainProgram → List Object → List Object → Type 0
EachTyped p h [] = Unit {0}
EachTyped p h (o ∷ os) = ObjectTyped h (slice_get p.classes o.class.0) o.slots × EachTyped p h os

abbrev pub TypedHeap : PlainProgram → List Object → Type 0
TypedHeap p h = EachTyped p h h
