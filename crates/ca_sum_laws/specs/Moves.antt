-- Objects whose numbers moved by differences, and the law that a summed section moves all objects alike.
use Rattle.std.specs.Prelude.{ℕ, ℤ, pos, ◌≡◌, ◌+ℤ◌, List, Option, Some, None, slice_get}
use Rattle.std.specs.Int.{int_wrap, w64}
use Rattle.ca_program.specs.declared.program.ClassId.{ClassId}
use Rattle.ca_program.specs.Plain.{PlainProgram}
use Rattle.ca_model.specs.declared.value.Value.TheVariants.{Long}
use Rattle.ca_model.specs.declared.value.Slot.{Slot}
use Rattle.ca_model.specs.declared.value.Slot.TheVariants.{One}
use Rattle.ca_model.specs.declared.value.Object.{Object}
use Rattle.ca_model.specs.Typed.{TypedHeap}
use Rattle.ca_meaning.specs.Expressions.{Invocation}
use Rattle.ca_meaning.specs.Sections.{Outcome, Sectioned, done, stopped, over, section}
use Rattle.ca_meaning.specs.WellTyped.{WellTyped, IsMethodOf, IsTypedObject}
use Rattle.ca_meaning.specs.Agree.{Agree}
use Rattle.ca_meaning.specs.ProgramTyped.{ProgramTyped}
use Rattle.ca_parallel.specs.Extents.{Extent}
use Rattle.ca_sum_laws.specs.Summed.{Summed}

-- a single number with another added, wrapping; any other slot as it is
abbrev pub plus_one : Slot → ℤ → Slot
plus_one (One (Long n)) d = One (Long (int_wrap w64 (n +ℤ d)))
plus_one s d = s

abbrev pub plus : Option Slot → ℤ → Option Slot
plus None d = None
plus (Some s) d = Some (plus_one s d)

-- its numbers have 64 bits: 0 moves none of them
abbrev pub Still : Object → Type 0
Still o = (f : ℕ) → plus (slice_get o.slots f) (pos 0) ≡ slice_get o.slots f

-- each slot moved by the difference of its place
pub record Moved (d : ℕ → ℤ) (slots after : List Slot) : Type 0 where
  pub at : (f : ℕ) → slice_get after f ≡ plus (slice_get slots f) (d f)

-- Two outcomes of one section, on two objects: the same list and steps, and both objects moved by the same differences.
pub record MovesAlike (o q : Object) (m n : Outcome) : Type 0 where
  pub differences : ℕ → ℤ
  pub first : Moved differences o.slots m.object.slots
  pub second : Moved differences q.slots n.object.slots
  pub first_class : m.object.class ≡ o.class
  pub second_class : n.object.class ≡ q.class
  pub listed : m.listed ≡ n.listed
  pub steps : m.steps ≡ n.steps

-- The section ends alike on both.
pub data EndsAlike (o q : Object) : Sectioned → Sectioned → Type 0 where
  both_done : (m n : Outcome) → MovesAlike o q m n → EndsAlike o q (done m) (done n)
  both_stopped : (t : _) → EndsAlike o q (stopped t) (stopped t)
  both_over : EndsAlike o q over over

-- A summed section ends alike on any two typed objects that agree on the extent's constants.
abbrev pub SummedSectionsMoveAlike : Type 0
SummedSectionsMoveAlike =
    (p : PlainProgram) → ProgramTyped p → (x : Extent) (frozen : List Object) → TypedHeap p frozen →
    (i : Invocation) → Summed p x.written i.op → WellTyped p frozen i →
    (c : ClassId) → IsMethodOf (slice_get p.ops i.op.0) c →
    (o q : Object) → IsTypedObject p frozen c o → IsTypedObject p frozen c q → Agree x.written o q → (k : ℕ) →
    EndsAlike o q (section p frozen i.receiver o i.op i.arguments k) (section p frozen i.receiver q i.op i.arguments k)
