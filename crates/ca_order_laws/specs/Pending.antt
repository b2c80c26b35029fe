-- The pending machine: operations wait, and any of them runs its section next, on the object that is there now. All
-- else is read in a heap that stays as it is: the frozen heap, a snapshot.
use Rattle.std.specs.Prelude.{ℕ, ◌≡◌, ◌+◌, List, [], ◌∷◌, ◌++◌, Some, slice_get, slice_set}
use Rattle.ca_program.specs.Plain.{PlainProgram}
use Rattle.ca_model.specs.declared.value.Object.{Object}
use Rattle.ca_meaning.specs.Expressions.{Invocation}
use Rattle.ca_meaning.specs.Sections.{Outcome, Completes}
use Rattle.ca_meaning.specs.Multisets.{SameItems}

-- the section of the operation, on this object and with all else read in the frozen heap, is complete and leaves this
abbrev pub Leaves : PlainProgram → List Object → Invocation → Object → Outcome → Type 0
Leaves p frozen i o m = Completes p frozen i.receiver o i.op i.arguments m

-- A run that leaves this heap and these operations waiting: the operations in the order in which they ran, the heap
-- and the operations that waited at its start, and how many steps it took.
pub data PendingRun (p : PlainProgram) (frozen : List Object) (last : List Object) (rest : List Invocation) : List Invocation → List Object → List Invocation → ℕ → Type 0 where
  rests : (waiting : List Invocation) → SameItems waiting rest → PendingRun p frozen last rest [] last waiting 0
  runs : (i : Invocation) (more : List Invocation) (h : List Object) (waiting others : List Invocation) (o : Object) (m : Outcome) (steps : ℕ) →
      SameItems waiting (i ∷ others) → slice_get h i.receiver ≡ Some o → Leaves p frozen i o m →
      PendingRun p frozen last rest more (slice_set h i.receiver m.object) (m.listed ++ others) steps →
      PendingRun p frozen last rest (i ∷ more) h waiting (m.steps + steps)

-- a run behind which nothing waits
pub record CompleteRun (p : PlainProgram) (frozen h : List Object) (waiting : List Invocation) (last : List Object) (steps : ℕ) : Type 0 where
  pub order : List Invocation
  pub run : PendingRun p frozen last [] order h waiting steps
