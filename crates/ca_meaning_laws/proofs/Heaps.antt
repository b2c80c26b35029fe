-- Typed heaps: what they hold has its type, and puts and creations keep them typed.
use Rattle.std.proofs.Common.{◌≡◌, ℕ, zero, suc, List, [], ◌∷◌, ◌++◌, length, Option, Some, None, refl, sym, subst}
use Rattle.std.specs.Prelude.{slice_get}
use Rattle.ca_program.specs.declared.program.ClassId.{ClassId}
use Rattle.ca_program.specs.declared.program.FieldId.{FieldId}
use Rattle.ca_program.specs.declared.program.FieldInfo.{FieldInfo}
use Rattle.ca_program.specs.declared.program.ValueType.{ValueType}
use Rattle.ca_program.specs.declared.program.ValueType.TheVariants.{Long as LongType, Bool as BoolType, Pointer}
use Rattle.ca_program.specs.Plain.{PlainProgram, PlainClass}
use Rattle.ca_model.specs.declared.value.Value.{Value as Datum}
use Rattle.ca_model.specs.declared.value.Value.TheVariants.{Long, Bool as Truth, Null, Ref}
use Rattle.ca_model.specs.declared.value.Slot.{Slot}
use Rattle.ca_model.specs.declared.value.Slot.TheVariants.{One, Many}
use Rattle.ca_model.specs.declared.value.Object.{Object}
use Rattle.ca_model.specs.Heaps.{fields_of, stored, starts_of, created}
use Rattle.ca_model.specs.Slots.{start_slots}
use Rattle.ca_model.specs.Typed.{IsOfClass, HasType, AllHaveType, SlotTyped, SlotsTyped, ObjectTyped, EachTyped, TypedHeap}
use Rattle.ca_meaning.specs.Expressions.{one_in, items_in, slots_in, slot_of, pointed}
use Rattle.ca_meaning.specs.Functions.{own_of}
use Rattle.ca_meaning.specs.Serial.{put_own}
use Rattle.ca_meaning.specs.WellTyped.{ValuesTyped}
use Rattle.ca_meaning.specs.ProgramTyped.{IsScalar, IsArray, IsClass, field_info}
use Rattle.ca_meaning_laws.specs.Typed.{Yields, yields, yields_trap, Extends, IsReceiver, OwnTyped}
use Rattle.ca_meaning_laws.proofs.Values.{own_scalar, own_array, own_put, FieldHas, start_slots_typed}

-- ---- heaps that have all objects of another

pub extends_self : (h : List Object) → Extends h h
extends_self h = record { keeps = λ n c t. t }

pub extends_then : (h g f : List Object) → Extends h g → Extends g f → Extends h f
extends_then h g f a b = record { keeps = λ n c t. b.keeps n c (a.keeps n c t) }

pub type_kept : (h g : List Object) → Extends h g → (v : Datum) (ty : ValueType) → HasType h v ty → HasType g v ty
type_kept h g x (Long n) LongType t = t
type_kept h g x (Long n) BoolType t = absurd t
type_kept h g x (Long n) (Pointer c) t = absurd t
type_kept h g x (Truth b) BoolType t = tt
type_kept h g x (Truth b) LongType t = absurd t
type_kept h g x (Truth b) (Pointer c) t = absurd t
type_kept h g x Null (Pointer c) t = tt
type_kept h g x Null LongType t = absurd t
type_kept h g x Null BoolType t = absurd t
type_kept h g x (Ref n) (Pointer c) t = x.keeps n c t
type_kept h g x (Ref n) LongType t = absurd t
type_kept h g x (Ref n) BoolType t = absurd t

pub values_kept : (h g : List Object) → Extends h g → (vs : List Datum) (tys : List ValueType) → ValuesTyped h vs tys → ValuesTyped g vs tys
values_kept h g x [] [] t = tt
values_kept h g x [] (ty ∷ tys) t = absurd t
values_kept h g x (v ∷ vs) [] t = absurd t
values_kept h g x (v ∷ vs) (ty ∷ tys) t = (type_kept h g x v ty t.0, values_kept h g x vs tys t.1)

all_kept : (h g : List Object) → Extends h g → (vs : List Datum) (ty : ValueType) → AllHaveType h vs ty → AllHaveType g vs ty
all_kept h g x [] ty t = tt
all_kept h g x (v ∷ vs) ty t = (type_kept h g x v ty t.0, all_kept h g x vs ty t.1)

slot_kept : (h g : List Object) → Extends h g → (s : Slot) (ty : ValueType) (len : Option ℕ) → SlotTyped h s ty len → SlotTyped g s ty len
slot_kept h g x (One v) ty None t = type_kept h g x v ty t
slot_kept h g x (One v) ty (Some n) t = absurd t
slot_kept h g x (Many vs) ty None t = absurd t
slot_kept h g x (Many vs) ty (Some n) t = (t.0, all_kept h g x vs ty t.1)

slots_kept : (h g : List Object) → Extends h g → (ss : List Slot) (fs : List FieldInfo) → SlotsTyped h ss fs → SlotsTyped g ss fs
slots_kept h g x [] [] t = tt
slots_kept h g x [] (f ∷ fs) t = absurd t
slots_kept h g x (s ∷ ss) [] t = absurd t
slots_kept h g x (s ∷ ss) (f ∷ fs) t = (slot_kept h g x s f.ty f.length t.0, slots_kept h g x ss fs t.1)

pub object_kept : (h g : List Object) → Extends h g → (k : Option PlainClass) (ss : List Slot) → ObjectTyped h k ss → ObjectTyped g k ss
object_kept h g x None ss t = absurd t
object_kept h g x (Some k) ss t = slots_kept h g x ss k.fields t

pub each_kept : (p : PlainProgram) (h g : List Object) → Extends h g → (os : List Object) → EachTyped p h os → EachTyped p g os
each_kept p h g x [] t = tt
each_kept p h g x (o ∷ os) t = (object_kept h g x (slice_get p.classes o.class.0) o.slots t.0, each_kept p h g x os t.1)

pub receiver_kept : (h g : List Object) → Extends h g → (c : Option ClassId) (this : Datum) → IsReceiver h c this → IsReceiver g c this
receiver_kept h g x None this t = tt
receiver_kept h g x (Some c) (Ref n) t = x.keeps n c t
receiver_kept h g x (Some c) (Long n) t = absurd t
receiver_kept h g x (Some c) (Truth b) t = absurd t
receiver_kept h g x (Some c) Null t = absurd t

-- ---- what typed heaps hold

pub object_typed : (p : PlainProgram) (g os : List Object) (n : ℕ) (c : ClassId) → EachTyped p g os → IsOfClass (slice_get os n) c → ObjectTyped g (slice_get p.classes c.0) (slots_in (slice_get os n))
object_typed p g [] n c t e = absurd e
object_typed p g (o ∷ os) zero c t e = subst (λ z. ObjectTyped g (slice_get p.classes z.0) o.slots) e t.0
object_typed p g (o ∷ os) (suc n) c t e = object_typed p g os n c t.1 e

-- the own slots of a receiver
pub own_typed : (p : PlainProgram) (h : List Object) (c : Option ClassId) (this : Datum) → TypedHeap p h → IsReceiver h c this → OwnTyped p h c (own_of h this)
own_typed p h None this t e = tt
own_typed p h (Some c) (Ref n) t e = object_typed p h h n c t e
own_typed p h (Some c) (Long n) t e = absurd e
own_typed p h (Some c) (Truth b) t e = absurd e
own_typed p h (Some c) Null t e = absurd e

pub read_typed : (p : PlainProgram) (h : List Object) (n : ℕ) (f : FieldId) (ty : ValueType) → TypedHeap p h → IsOfClass (slice_get h n) f.class → IsScalar (field_info p f) ty → HasType h (one_in (slot_of h n f)) ty
read_typed p h n f ty t e s = own_scalar h (slice_get p.classes f.class.0) (slots_in (slice_get h n)) f.field ty (object_typed p h h n f.class t e) s

pub items_typed : (p : PlainProgram) (h : List Object) (n : ℕ) (f : FieldId) (ty : ValueType) → TypedHeap p h → IsOfClass (slice_get h n) f.class → IsArray (field_info p f) ty → AllHaveType h (items_in (slot_of h n f)) ty
items_typed p h n f ty t e s = own_array h (slice_get p.classes f.class.0) (slots_in (slice_get h n)) f.field ty (object_typed p h h n f.class t e) s

pub pointed_typed : (h : List Object) (line : ℕ) (v : Datum) (c : ClassId) (k : ℕ) → HasType h v (Pointer c) → Yields (λ n. IsOfClass (slice_get h n) c) (pointed line v k)
pointed_typed h line (Ref n) c k t = yields n k t
pointed_typed h line Null c k t = yields_trap _
pointed_typed h line (Long n) c k t = absurd t
pointed_typed h line (Truth b) c k t = absurd t

-- ---- puts

class_stored : (os : List Object) (n f i : ℕ) (v : Datum) (m : ℕ) (c : ClassId) → IsOfClass (slice_get os m) c → IsOfClass (slice_get (stored os n f i v) m) c
class_stored [] n f i v m c t = absurd t
class_stored (o ∷ os) zero f i v zero c t = t
class_stored (o ∷ os) zero f i v (suc m) c t = t
class_stored (o ∷ os) (suc n) f i v zero c t = t
class_stored (o ∷ os) (suc n) f i v (suc m) c t = class_stored os n f i v m c t

extends_stored : (h : List Object) (n f i : ℕ) (v : Datum) → Extends h (stored h n f i v)
extends_stored h n f i v = record { keeps = λ m c t. class_stored h n f i v m c t }

each_stored : (p : PlainProgram) (g os : List Object) (n f i : ℕ) (v : Datum) (c : ClassId) (ty : ValueType) → IsOfClass (slice_get os n) c → FieldHas (slice_get (fields_of (slice_get p.classes c.0)) f) ty → HasType g v ty → EachTyped p g os → EachTyped p g (stored os n f i v)
each_stored p g [] n f i v c ty e has hv t = tt
each_stored p g (o ∷ os) zero f i v c ty e has hv t =
    (own_put g (slice_get p.classes o.class.0) o.slots f i v ty t.0 (subst (λ z. FieldHas (slice_get (fields_of (slice_get p.classes z.0)) f) ty) (sym e) has) hv, t.1)
each_stored p g (o ∷ os) (suc n) f i v c ty e has hv t = (t.0, each_stored p g os n f i v c ty e has hv t.1)

stored_typed : (p : PlainProgram) (h : List Object) (n : ℕ) (f : FieldId) (i : ℕ) (v : Datum) (ty : ValueType) → TypedHeap p h → IsOfClass (slice_get h n) f.class → FieldHas (field_info p f) ty → HasType h v ty → TypedHeap p (stored h n f.field i v)
stored_typed p h n f i v ty t e has hv =
    let x : Extends h (stored h n f.field i v) = extends_stored h n f.field i v in
    each_stored p (stored h n f.field i v) h n f.field i v f.class ty e has (type_kept h (stored h n f.field i v) x v ty hv) (each_kept p h (stored h n f.field i v) x h t)

pub extends_put : (h : List Object) (this : Datum) (f : FieldId) (i : ℕ) (v : Datum) → Extends h (put_own h this f i v)
extends_put h (Ref n) f i v = extends_stored h n f.field i v
extends_put h (Long n) f i v = extends_self h
extends_put h (Truth b) f i v = extends_self h
extends_put h Null f i v = extends_self h

pub put_typed : (p : PlainProgram) (h : List Object) (this : Datum) (f : FieldId) (i : ℕ) (v : Datum) (ty : ValueType) → TypedHeap p h → IsReceiver h (Some f.class) this → FieldHas (field_info p f) ty → HasType h v ty → TypedHeap p (put_own h this f i v)
put_typed p h (Ref n) f i v ty t e has hv = stored_typed p h n f i v ty t e has hv
put_typed p h (Long n) f i v ty t e has hv = absurd e
put_typed p h (Truth b) f i v ty t e has hv = absurd e
put_typed p h Null f i v ty t e has hv = absurd e

-- ---- creations

class_behind : (os new : List Object) (n : ℕ) (c : ClassId) → IsOfClass (slice_get os n) c → IsOfClass (slice_get (os ++ new) n) c
class_behind [] new n c t = absurd t
class_behind (o ∷ os) new zero c t = t
class_behind (o ∷ os) new (suc n) c t = class_behind os new n c t

pub extends_created : (p : PlainProgram) (c : ClassId) (h : List Object) → Extends h (created p c h)
extends_created p c h = record { keeps = λ n d t. class_behind h _ n d t }

last_class : (os : List Object) (o : Object) → IsOfClass (slice_get (os ++ o ∷ []) (length os)) o.class
last_class [] o = refl
last_class (x ∷ os) o = last_class os o

-- the new object is the last one
pub new_class : (p : PlainProgram) (c : ClassId) (h : List Object) → IsOfClass (slice_get (created p c h) (length h)) c
new_class p c h = last_class h (record { class = c; slots = starts_of p c })

start_object : (g : List Object) (o : Option PlainClass) (k : PlainClass) → o ≡ Some k → ObjectTyped g o (start_slots (fields_of o))
start_object g None k e = cc
start_object g (Some x) k e = start_slots_typed g x.fields

each_behind : (p : PlainProgram) (g os : List Object) (o : Object) → EachTyped p g os → ObjectTyped g (slice_get p.classes o.class.0) o.slots → EachTyped p g (os ++ o ∷ [])
each_behind p g [] o t e = (e, tt)
each_behind p g (x ∷ os) o t e = (t.0, each_behind p g os o t.1 e)

pub created_typed : (p : PlainProgram) (c : ClassId) (h : List Object) → TypedHeap p h → IsClass p c → TypedHeap p (created p c h)
created_typed p c h t e =
    each_behind p (created p c h) h (record { class = c; slots = starts_of p c }) (each_kept p h (created p c h) (extends_created p c h) h t) (start_object (created p c h) (slice_get p.classes c.0) e.0 e.1)
