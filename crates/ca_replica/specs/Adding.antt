-- The sums of a replica, added to a heap.
use Rattle.std.specs.Prelude.{ℕ, ℤ, ◌≡◌, ◌⊎◌, ◌+ℤ◌, List, [], ◌∷◌, cond, nat_eq, Option, Some, slice_get, length}
use Rattle.std.specs.Int.{int_wrap, w64}
use Rattle.ca_program.specs.declared.program.ClassId.{ClassId}
use Rattle.ca_program.specs.declared.program.FieldId.{FieldId}
use Rattle.ca_model.specs.declared.value.Value.TheVariants.{Long}
use Rattle.ca_model.specs.declared.value.Slot.{Slot}
use Rattle.ca_model.specs.declared.value.Object.{Object}
use Rattle.ca_model.specs.Slots.{put_slot}
use Rattle.ca_model.specs.Heaps.{stored}
use Rattle.ca_meaning.specs.Expressions.{slots_in}
use Rattle.ca_parallel.specs.ExtentsOf.{Rises, FieldBefore}
use Rattle.ca_beside.specs.declared.beside.Changed.{Changed}
use Rattle.ca_beside.specs.Beside.{present, AreDistinct}
use Rattle.ca_sum_laws.specs.Replicas.{merged}
use Rattle.ca_sum_laws.specs.Moves.{Still}
use Rattle.ca_replica.specs.Zeroed.{number_at, zeroed_heap}

-- ---- to one object

-- the slots with the number of a field added
abbrev pub sum_numbers : List Slot → ℕ → Option ℤ → Option ℤ → List Slot
sum_numbers ss f (Some a) (Some b) = put_slot ss f 0 (Long (int_wrap w64 (a +ℤ b)))
sum_numbers ss f a b = ss

abbrev pub sum_at : ℕ → List Slot → List Slot → List Slot
sum_at f sums ss = sum_numbers ss f (number_at (slice_get ss f)) (number_at (slice_get sums f))

abbrev pub summed_field : FieldId → ClassId → List Slot → List Slot → List Slot
summed_field f c sums ss = cond (nat_eq f.class.0 c.0) (sum_at f.field sums ss) ss

-- the slots with all sums of a copy of the class
abbrev pub sums_in : List FieldId → ClassId → List Slot → List Slot → List Slot
sums_in [] c sums ss = ss
sums_in (f ∷ fs) c sums ss = sums_in fs c sums (summed_field f c sums ss)

-- ---- to a heap

abbrev pub added_numbers : List Object → ℕ → ℕ → Option ℤ → Option ℤ → List Object
added_numbers h n f (Some a) (Some b) = stored h n f 0 (Long (int_wrap w64 (a +ℤ b)))
added_numbers h n f a b = h

-- the heap with the number of a field added to that of object n
abbrev pub added_number : List Slot → ℕ → ℕ → List Object → List Object
added_number sums n f h = added_numbers h n f (number_at (slice_get (slots_in (slice_get h n)) f)) (number_at (slice_get sums f))

abbrev pub added_field : ℕ → Object → FieldId → List Object → List Object
added_field n copy f h = cond (nat_eq f.class.0 copy.class.0) (added_number copy.slots n f.field h) h

-- the heap with all sums of a copy of object n
abbrev pub added_object : List FieldId → ℕ → Object → List Object → List Object
added_object [] n copy h = h
added_object (f ∷ fs) n copy h = added_object fs n copy (added_field n copy f h)

-- the heap with all sums of all copies
abbrev pub added : List FieldId → List Changed → List Object → List Object
added fs [] h = h
added fs (c ∷ cs) h = added fs cs (added_object fs c.number c.object h)

-- no field of the list is this one
abbrev pub Absent : List FieldId → ClassId → ℕ → Type 0
Absent [] c g = Unit {0}
Absent (f ∷ fs) c g = ¬ ((f.class.0 ≡ c.0) × (f.field ≡ g)) × Absent fs c g

-- each field stands once in the list
abbrev pub Once : List FieldId → Type 0
Once [] = Unit {0}
Once (f ∷ fs) = Absent fs f.class f.field × Once fs

-- a copy of an object: of its class, with its constants, and with numbers only where it has numbers
pub record IsCopy (written : List FieldId) (first copy : Object) : Type 0 where
  pub class : copy.class ≡ first.class
  pub constants : (g : ℕ) → Absent written first.class g → slice_get copy.slots g ≡ slice_get first.slots g
  pub numbers : (g : ℕ) (n : _) → number_at (slice_get copy.slots g) ≡ Some n → (m : _) × (number_at (slice_get first.slots g) ≡ Some m)

-- both are one slot, or both hold numbers
abbrev pub AreAlike : Option Slot → Option Slot → Type 0
AreAlike s t = (s ≡ t) ⊎ ((n : ℤ) × (m : ℤ) × (number_at s ≡ Some n) × (number_at t ≡ Some m))

-- A whole copy of an object: of its class, with its constants, and alike in each slot. So the object's numbers can be added
-- to the copy as well as the copy's to the object.
pub record IsWhole (written : List FieldId) (first copy : Object) : Type 0 where
  pub class : copy.class ≡ first.class
  pub constants : (g : ℕ) → Absent written first.class g → slice_get copy.slots g ≡ slice_get first.slots g
  pub alike : (g : ℕ) → AreAlike (slice_get copy.slots g) (slice_get first.slots g)

-- the same of the frozen object with the copy's number, if there is one
abbrev pub IsWholeOf : List FieldId → List Object → Changed → Type 0
IsWholeOf written frozen c = (first : Object) → slice_get frozen c.number ≡ Some first → IsWhole written first c.object

abbrev pub AreWhole : List FieldId → List Object → List Changed → Type 0
AreWhole written frozen [] = Unit {0}
AreWhole written frozen (c ∷ cs) = IsWholeOf written frozen c × AreWhole written frozen cs

-- the same of the copies of each worker
abbrev pub AllWhole : List FieldId → List Object → List (List Changed) → Type 0
AllWhole written frozen [] = Unit {0}
AllWhole written frozen (cs ∷ rest) = AreWhole written frozen cs × AllWhole written frozen rest

-- Adding the sums, which looks at no frozen heap, is merging what changed since the copies began at 0.
abbrev pub AddingIsMerging : Type 0
AddingIsMerging =
    (written : List FieldId) → Once written → (frozen now : List Object) →
    length now ≡ length frozen →
    ((n : ℕ) (o : Object) → slice_get now n ≡ Some o → Still o) →
    (cs : List Changed) → AreDistinct cs → ((i : ℕ) (c : Changed) → slice_get cs i ≡ Some c → (first : Object) → slice_get frozen c.number ≡ Some first → IsCopy written first c.object) →
    added written cs now ≡ merged now (zeroed_heap written frozen) (present (zeroed_heap written frozen) cs)

-- the written fields of an extent rise, so each stands there once
abbrev pub RisingListsHoldEachOnce : Type 0
RisingListsHoldEachOnce = (fs : List FieldId) → Rises FieldBefore fs → Once fs
