-- What a section adds to a replica.
use Rattle.std.specs.Prelude.{ℕ, ℤ, ◌≡◌, ◌≢◌, ◌++◌, List, Contains, slice_get}
use Rattle.ca_program.specs.declared.program.OpId.{OpId}
use Rattle.ca_program.specs.declared.program.FieldId.{FieldId}
use Rattle.ca_program.specs.Plain.{PlainProgram}
use Rattle.ca_model.specs.declared.value.Object.{Object}
use Rattle.ca_model.specs.Typed.{TypedHeap}
use Rattle.ca_meaning.specs.Expressions.{slots_in}
use Rattle.ca_meaning.specs.Sections.{Outcome, Sectioned, done, stopped, over, section}
use Rattle.ca_meaning.specs.WellTyped.{WellTyped, IsTypedObject}
use Rattle.ca_meaning.specs.Agree.{AgreesAt}
use Rattle.ca_meaning.specs.ProgramTyped.{ProgramTyped}
use Rattle.ca_parallel.specs.declared.op.Op.{Op}
use Rattle.ca_parallel.specs.Calls.{invocation_of, invocations_of}
use Rattle.ca_parallel.specs.Extents.{Extent, IsExtentOf}
use Rattle.ca_parallel.specs.Parallel.{Parallel}
use Rattle.ca_order_laws.specs.Order.{StandsFor}
use Rattle.ca_sections.specs.declared.operations.SectionAnswer.{SectionAnswer}
use Rattle.ca_sections.specs.declared.operations.SectionAnswer.TheVariants.{Done, Trapped, Spent}
use Rattle.ca_beside.specs.declared.beside.Changed.{Changed}
use Rattle.ca_beside.specs.Beside.{present, Sectioned as Ran}
use Rattle.ca_sum_laws.specs.Summed.{Summed}
use Rattle.ca_sum_laws.specs.Moves.{Moved}
use Rattle.ca_replica.specs.Zeroed.{zeroed_heap}

-- the program is typed, the extent parallel and summed, and the heap typed
pub record IsRound (p : PlainProgram) (x : Extent) (frozen : List Object) : Type 0 where
  pub program : ProgramTyped p
  pub roots : List OpId
  pub is : IsExtentOf p roots x
  pub parallel : Parallel p x
  pub summed : (op : OpId) → Contains x.ops op → Summed p x.written op
  pub heap : TypedHeap p frozen

-- The heap of sums: a replica's copies, and 0 in each number that is written elsewhere. Number f of object n is the sum
-- of what sections added to it.
abbrev pub sums : List FieldId → List Object → List Changed → List Object
sums written frozen cs = present (zeroed_heap written frozen) cs

-- The same was added to the sums of object r as the section adds to the object that it ran on. No other sum changed.
pub record AddsAlike (old new : List Object) (r : ℕ) (q : Object) (m : Outcome) : Type 0 where
  pub added : ℕ → ℤ
  pub sums : Moved added (slots_in (slice_get old r)) (slots_in (slice_get new r))
  pub object : Moved added q.slots m.object.slots
  pub others : (n : ℕ) → r ≢ n → slice_get new n ≡ slice_get old n

-- An answer, where the section of the same call on the object q ends so. Done: the steps and the list are those of the
-- section, and what it adds to q was added to the sums. Otherwise the sums and the list are as before.
abbrev pub Adds : SectionAnswer → Sectioned → List Object → List Object → ℕ → Object → List Op → List Op → Type 0
Adds (Done steps) (done m) old new r q out now = (steps ≡ m.steps) × (invocations_of now ≡ invocations_of out ++ m.listed) × AddsAlike old new r q m
Adds (Trapped t) (stopped u) old new r q out now = (t ≡ u) × (new ≡ old) × (now ≡ out)
Adds Spent over old new r q out now = (new ≡ old) × (now ≡ out)
Adds answer is old new r q out now = ⊥

-- What is said of an answer: the sums stand for the frozen heap again, and on every typed object that agrees with the
-- frozen one on constants the section ends as answered.
pub record Applied (p : PlainProgram) (x : Extent) (frozen old : List Object) (op : Op) (left : ℕ) (out : List Op) (new : List Object) (now : List Op) (answer : SectionAnswer) : Type 0 where
  pub stands : StandsFor p x frozen new
  pub on_each : (q : Object) → IsTypedObject p frozen q.class q → AgreesAt x.written q frozen op.receiver → Adds answer (section p frozen op.receiver q op.op op.args left) old new op.receiver q out now

abbrev pub SectionsAdd : Type 0
SectionsAdd =
    (p : PlainProgram) (x : Extent) (frozen : List Object) → IsRound p x frozen → (old : List Object) → StandsFor p x frozen old →
    (op : Op) → Contains x.ops op.op → WellTyped p frozen (invocation_of op) → (left : ℕ) (out : List Op) (new : List Object) (now : List Op) (answer : SectionAnswer) →
    Ran p frozen old op left out new now answer → Applied p x frozen old op left out new now answer

-- at first each sum is 0, and the heap of sums stands for the frozen one
abbrev pub NoSumsStand : Type 0
NoSumsStand = (p : PlainProgram) (x : Extent) (frozen : List Object) → TypedHeap p frozen → StandsFor p x frozen (zeroed_heap x.written frozen)
