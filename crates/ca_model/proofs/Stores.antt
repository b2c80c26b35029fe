-- Stores and creations: what they leave as it was, and that the heap's counts hold after them.
use Rattle.std.proofs.Common.{◌≡◌, ℕ, zero, suc, ◌+◌, ◌-◌, ◌≤◌, ◌<◌, List, [], ◌∷◌, ◌++◌, length, map, Some, refl, ap, sym, ◌∙◌, arith, length-set, length-append, get_or}
use Rattle.std.proofs.lemmas.Option.{slice_get-get_or, slice_get-map, slice_get_past}
use Rattle.std.specs.Prelude.{slice_get, slice_set}
use Rattle.ca_program.specs.declared.program.ClassId.{ClassId}
use Rattle.ca_program.specs.declared.program.Class.{Class}
use Rattle.ca_program.specs.declared.program.Program.{Program}
use Rattle.ca_program.specs.View.{class_view, program_view}
use Rattle.ca_model.specs.declared.value.Value.{Value as Datum}
use Rattle.ca_model.specs.declared.value.Slot.{Slot}
use Rattle.ca_model.specs.declared.value.Slot.TheVariants.{One, Many}
use Rattle.ca_model.specs.declared.value.Object.{Object}
use Rattle.ca_model.specs.Slots.{slot_len, slots_len, put_item, put_slot, start_slots, HasItem}
use Rattle.ca_model.specs.Heaps.{values_in, stored, starts_of, HasSlot}
use Rattle.ca_model.specs.Counted.{Counted, IsLike}

-- what indexing found is there
pub found : {X : Type 0} (xs : List X) (i : ℕ) (x : X) → i < length xs → x ≡ get_or xs i x → slice_get xs i ≡ Some x
found xs i x lt e = slice_get-get_or xs i x lt ∙ ap Some (sym e)

-- Stores in place

pub put_is : (ss : List Slot) (f i : ℕ) (v : Datum) (s : Slot) → slice_get ss f ≡ Some s → slice_set ss f (put_item s i v) ≡ put_slot ss f i v
put_is [] f i v s h = absurd (cc)
put_is (x ∷ ss) zero i v s h = let e : x ≡ s = cc in rw e
put_is (x ∷ ss) (suc f) i v s h = ap (λ l. x ∷ l) (put_is ss f i v s h)

pub stored_is : (os : List Object) (n f i : ℕ) (v : Datum) (o : Object) → slice_get os n ≡ Some o → slice_set os n record { class = o.class; slots = put_slot o.slots f i v } ≡ stored os n f i v
stored_is [] n f i v o h = absurd (cc)
stored_is (x ∷ os) zero f i v o h = let e : x ≡ o = cc in rw e
stored_is (x ∷ os) (suc n) f i v o h = ap (λ l. x ∷ l) (stored_is os n f i v o h)

pub slot_there : (ss : List Slot) (f i : ℕ) → HasItem (slice_get ss f) i → f < length ss
slot_there [] f i h = absurd h
slot_there (s ∷ ss) zero i h = omega arith
slot_there (s ∷ ss) (suc f) i h = omega (arith, slot_there ss f i h)

pub object_there : (os : List Object) (n f i : ℕ) → HasSlot (slice_get os n) f i → n < length os
object_there [] n f i h = absurd h
object_there (o ∷ os) zero f i h = omega arith
object_there (o ∷ os) (suc n) f i h = omega (arith, object_there os n f i h)

pub like_there : (os : List Object) (n : ℕ) (o : Object) → IsLike (slice_get os n) o → n < length os
like_there [] n new h = absurd h
like_there (o ∷ os) zero new h = omega arith
like_there (o ∷ os) (suc n) new h = omega (arith, like_there os n new h)

-- The counts

item_len : (s : Slot) (i : ℕ) (v : Datum) → slot_len (put_item s i v) ≡ slot_len s
item_len (One x) i v = refl
item_len (Many vs) i v = length-set vs i v

pub slot_lens : (ss : List Slot) (f i : ℕ) (v : Datum) → slots_len (put_slot ss f i v) ≡ slots_len ss
slot_lens [] f i v = refl
slot_lens (s ∷ ss) zero i v = ap (λ n. n + slots_len ss) (item_len s i v)
slot_lens (s ∷ ss) (suc f) i v = ap (λ n. slot_len s + n) (slot_lens ss f i v)

-- slots of the same lengths hold as many values
pub same_lens : (ss ts : List Slot) → map slot_len ss ≡ map slot_len ts → slots_len ss ≡ slots_len ts
same_lens [] [] e = refl
same_lens [] (t ∷ ts) e = absurd (cc)
same_lens (s ∷ ss) [] e = absurd (cc)
same_lens (s ∷ ss) (t ∷ ts) e =
    let first : slot_len s ≡ slot_len t = cc in
    let rest : map slot_len ss ≡ map slot_len ts = cc in
    omega (arith, first, same_lens ss ts rest)

values_set : (os : List Object) (n : ℕ) (o new : Object) → slice_get os n ≡ Some o → slots_len o.slots ≡ slots_len new.slots → values_in (slice_set os n new) ≡ values_in os
values_set [] n o new h same = absurd (cc)
values_set (x ∷ os) zero o new h same = let e : x ≡ o = cc in rw (e, same)
values_set (x ∷ os) (suc n) o new h same = ap (λ m. slots_len x.slots + m) (values_set os n o new h same)

pub still_counted : (os : List Object) (k n : ℕ) (o new : Object) → slice_get os n ≡ Some o → slots_len o.slots ≡ slots_len new.slots → Counted os k → Counted (slice_set os n new) k
still_counted os k n o new h same c =
    record { few_objects = rw length-set c.few_objects; few_values = c.few_values; counted = c.counted ∙ sym (values_set os n o new h same) }

values_push : (os : List Object) (o : Object) → values_in (os ++ o ∷ []) ≡ values_in os + slots_len o.slots
values_push [] o = omega arith
values_push (x ∷ os) o = omega (arith, values_push os o)

-- a heap with one object more
pub counted_push : (os : List Object) (k size : ℕ) (o : Object) → Counted os k → length os < 1000000 → size ≡ slots_len o.slots → size ≤ 4000000 - k → Counted (os ++ o ∷ []) (k + size)
counted_push os k size o c few is le =
    record { few_objects = omega (arith, length-append os (o ∷ [])); few_values = omega (arith, c.few_values); counted = omega (arith, values_push os o, c.counted) }

-- Classes

-- the starting values of an object are those of its class's fields
pub starts_are : (p : Program) (c : ClassId) (class : Class) → slice_get p.classes.items c.0 ≡ Some class → starts_of (program_view p) c ≡ start_slots class.fields.items
starts_are p c class there = rw (slice_get-map class_view p.classes.items c.0, there)

-- an object of a class that is not there has no slots
pub no_starts : (p : Program) (c : ClassId) → length p.classes.items ≤ c.0 → starts_of (program_view p) c ≡ []
no_starts p c absent = rw (slice_get-map class_view p.classes.items c.0, slice_get_past p.classes.items c.0 absent) refl

-- Stores to what is not there

put_nothing : (ss : List Slot) (f : ℕ) (v : Datum) → (HasItem (slice_get ss f) 0 → ⊥) → put_slot ss f 0 v ≡ ss
put_nothing [] f v absent = refl
put_nothing (One x ∷ ss) zero v absent = absurd (absent (omega arith))
put_nothing (Many [] ∷ ss) zero v absent = refl
put_nothing (Many (x ∷ vs) ∷ ss) zero v absent = absurd (absent (omega arith))
put_nothing (s ∷ ss) (suc f) v absent = ap (λ l. s ∷ l) (put_nothing ss f v absent)

-- where there is no such item, a store to item 0 changes nothing
pub stored_nothing : (os : List Object) (n f : ℕ) (v : Datum) → (HasSlot (slice_get os n) f 0 → ⊥) → stored os n f 0 v ≡ os
stored_nothing [] n f v absent = refl
stored_nothing (o ∷ os) zero f v absent = ap (λ slots. record { class = o.class; slots = slots } ∷ os) (put_nothing o.slots f v absent)
stored_nothing (o ∷ os) (suc n) f v absent = ap (λ l. o ∷ l) (stored_nothing os n f v absent)
