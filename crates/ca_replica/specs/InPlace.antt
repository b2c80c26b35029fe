-- A run on a replica: what stays while its bodies run, and what is known of the heap of sums then.
use base.Fml.{GName}
use Rattle.std.specs.Prelude.{ℕ, ℤ, ◌≡◌, pos, List, [], ◌∷◌, Contains, Option, Some, None, slice_get}
use Rattle.ca_program.specs.declared.program.FieldId.{FieldId}
use Rattle.ca_program.specs.declared.program.Program.{Program}
use Rattle.ca_model.specs.declared.value.Value.{Value as Datum}
use Rattle.ca_model.specs.declared.value.Value.TheVariants.{Long}
use Rattle.ca_model.specs.declared.value.Slot.TheVariants.{Many}
use Rattle.ca_model.specs.declared.value.Object.{Object}
use Rattle.ca_meaning.specs.Expressions.{one_in, slots_in}
use Rattle.ca_beside.specs.declared.beside.Changed.{Changed}
use Rattle.ca_beside.specs.Beside.{AreDistinct, IsPlace}
use Rattle.ca_undo.specs.declared.puts.Put.{Put}
use Rattle.ca_undo.specs.Puts.{restored}
use Rattle.ca_replica.specs.declared.marks.FieldMark.{FieldMark}
use Rattle.ca_replica.specs.declared.marks.FieldMark.TheVariants.{Free}
use Rattle.ca_replica.specs.Applied.{sums}
use Rattle.ca_replica.specs.Calls.{Marks}

-- The program, what is written, the frozen heap and the marks; the sums with all old values put back; and which copies and old values are
-- borrowed.
pub record Lasting : Type 0 where
  pub program : Program
  pub written : List FieldId
  pub frozen : List Object
  pub marks : List FieldMark
  pub before : List Object
  pub copies : GName
  pub olds : GName

-- of these
abbrev pub lasting : Program → List FieldId → List Object → List FieldMark → List Changed → List Put → GName → GName → Lasting
lasting p ws frozen marks cs os copies olds = record { program = p; written = ws; frozen = frozen; marks = marks; before = restored os (sums ws frozen cs); copies = copies; olds = olds }

-- the mark that is there
abbrev pub mark_in : Option FieldMark → FieldMark
mark_in None = Free
mark_in (Some m) = m

-- 0 in the place of a number
abbrev pub zero_value : Datum → Datum
zero_value (Long n) = Long (pos 0)
zero_value v = v

-- what isn't written stands in a heap as in the frozen one
abbrev pub KeepsConstants : List FieldId → List Object → List Object → Type 0
KeepsConstants written frozen h =
    (n : ℕ) (o : Object) (g : ℕ) → slice_get frozen n ≡ Some o → ¬ Contains written (record { class = o.class; field = g }) → slice_get (slots_in (slice_get h n)) g ≡ slice_get o.slots g

-- objects are of the classes that they have in the frozen one
abbrev pub KeepsClasses : List Object → List Object → Type 0
KeepsClasses frozen h = (n : ℕ) (o q : Object) → slice_get frozen n ≡ Some o → slice_get h n ≡ Some q → q.class ≡ o.class

-- no array is written
abbrev pub KeepsArrays : List FieldId → List Object → Type 0
KeepsArrays written frozen =
    (n : ℕ) (o : Object) (g : ℕ) (vs : List Datum) → slice_get frozen n ≡ Some o → slice_get o.slots g ≡ Some (Many vs) → ¬ Contains written (record { class = o.class; field = g })

-- an object has a copy
abbrev pub HasCopy : List Changed → ℕ → Type 0
HasCopy cs n = (i : ℕ) × IsPlace cs i n

-- the copy of object n stands at a place, no other one has its number, and its field g is a number, which is this
pub record HasNumber (cs : List Changed) (place n g : ℕ) (a : ℤ) : Type 0 where
  pub object : Object
  pub there : slice_get cs place ≡ Some (record { number = n; object = object })
  pub apart : AreDistinct cs
  pub number : one_in (slice_get object.slots g) ≡ Long a

-- each old value is one of a copy
abbrev pub AllHave : List Put → List Changed → Type 0
AllHave [] cs = Unit {0}
AllHave (o ∷ os) cs = HasCopy cs o.object × AllHave os cs

-- a field of an object is one that is written
pub record IsWritten (written : List FieldId) (frozen : List Object) (n g : ℕ) : Type 0 where
  pub object : Object
  pub there : slice_get frozen n ≡ Some object
  pub put : Contains written (record { class = object.class; field = g })

-- each old value is that of one
abbrev pub AllWritten : List FieldId → List Object → List Put → Type 0
AllWritten written frozen [] = Unit {0}
AllWritten written frozen (o ∷ os) = IsWritten written frozen o.object o.field × AllWritten written frozen os

-- what is known while bodies run
pub record Keeps (written : List FieldId) (frozen : List Object) (marks : List FieldMark) (copies : List Changed) (olds : List Put) : Type 0 where
  pub marked : Marks written marks
  pub constants : KeepsConstants written frozen (sums written frozen copies)
  pub classes : KeepsClasses frozen (sums written frozen copies)
  pub arrays : KeepsArrays written frozen
  pub there : AllHave olds copies
  pub puts : AllWritten written frozen olds
