-- Turns of the pending machine.
use Rattle.std.specs.Prelude.{ℕ, ◌≡◌, ◌-◌, ◌<◌, ◌≤◌, ◌⊎◌, List, [], ◌∷◌, ◌++◌, length, Option, Some, None, slice_get, slice_set}
use Rattle.ca_program.specs.Plain.{PlainProgram}
use Rattle.ca_model.specs.declared.value.Object.{Object}
use Rattle.ca_meaning.specs.Expressions.{Invocation}
use Rattle.ca_meaning.specs.Multisets.{SameItems}
use Rattle.ca_meaning.specs.Sections.{Outcome, done, section}
use Rattle.ca_order_laws.specs.Pending.{PendingRun}
use Rattle.ca_run.specs.declared.turns.Progress.{Progress}
use Rattle.ca_run.specs.declared.turns.Progress.TheVariants.{Went, Stuck}
use Rattle.ca_run.specs.declared.turns.Turn.{Turn}
use Rattle.ca_run.specs.declared.turns.Turn.TheVariants.{Ran, Stuck as Sticks, Ended}

-- The operation waited, and ran its section, which is done within the budget in so many steps.
pub record RanThis (p : PlainProgram) (frozen h : List Object) (waiting : List Invocation) (left : ℕ) (i : Invocation) (after : List Object) (rest : List Invocation) (steps : ℕ) : Type 0 where
  pub others : List Invocation
  pub object : Object
  pub outcome : Outcome
  pub waited : SameItems waiting (i ∷ others)
  pub found : slice_get h i.receiver ≡ Some object
  pub section : section p frozen i.receiver object i.op i.arguments left ≡ done outcome
  pub heap : after ≡ slice_set h i.receiver outcome.object
  pub waits : SameItems rest (outcome.listed ++ others)
  pub steps_are : steps ≡ outcome.steps

-- One of the operations that wait did so.
pub record RanOne (p : PlainProgram) (frozen h : List Object) (waiting : List Invocation) (left : ℕ) (after : List Object) (rest : List Invocation) (steps : ℕ) : Type 0 where
  pub call : Invocation
  pub ran : RanThis p frozen h waiting left call after rest steps

-- One of the operations that wait has no object in the heap on which its section is done within the budget.
pub record Sticking (p : PlainProgram) (frozen h : List Object) (waiting : List Invocation) (left : ℕ) : Type 0 where
  pub call : Invocation
  pub others : List Invocation
  pub waited : SameItems waiting (call ∷ others)
  pub none : (o : Object) (m : Outcome) → slice_get h call.receiver ≡ Some o → ¬ (section p frozen call.receiver o call.op call.arguments left ≡ done m)

-- an operation that was given its turn ran in so many steps, or is stuck
abbrev pub GivenTurn : PlainProgram → List Object → List Object → List Invocation → ℕ → Invocation → List Object → List Invocation → Option ℕ → Type 0
GivenTurn p frozen h waiting left i after rest (Some steps) = RanThis p frozen h waiting left i after rest steps
GivenTurn p frozen h waiting left i after rest None = Sticking p frozen h waiting left

-- the turn that ran an operation: in so many steps, or it is stuck
abbrev pub turn_by : Option ℕ → Turn
turn_by (Some steps) = Ran steps
turn_by None = Sticks

abbrev pub Turned : PlainProgram → List Object → List Object → List Invocation → ℕ → List Object → List Invocation → Turn → Type 0
Turned p frozen h waiting left after rest (Ran steps) = RanOne p frozen h waiting left after rest steps
Turned p frozen h waiting left after rest Sticks = Sticking p frozen h waiting left
Turned p frozen h waiting left after rest Ended = (waiting ≡ []) × (after ≡ h) × (rest ≡ [])

-- The pending machine ran from a heap and the operations that waited to another heap and those that wait there, in so
-- many steps, which are within the budget.
pub record RanTo (p : PlainProgram) (frozen h : List Object) (waiting : List Invocation) (budget : ℕ) (after : List Object) (rest : List Invocation) (steps : ℕ) : Type 0 where
  pub order : List Invocation
  pub run : PendingRun p frozen after rest order h waiting steps
  pub within : steps ≤ budget

-- Behind some run an operation is stuck.
pub record StuckBehind (p : PlainProgram) (frozen h : List Object) (waiting : List Invocation) (budget : ℕ) : Type 0 where
  pub mid : List Object
  pub rest : List Invocation
  pub steps : ℕ
  pub ran : RanTo p frozen h waiting budget mid rest steps
  pub stuck : Sticking p frozen mid rest (budget - steps)

-- Turns ran no more operations than their limit says, and ended where nothing waits any more or where they reached their limit.
pub record WentTo (p : PlainProgram) (frozen h : List Object) (waiting : List Invocation) (budget limit : ℕ) (after : List Object) (rest : List Invocation) (steps : ℕ) : Type 0 where
  pub ran : RanTo p frozen h waiting budget after rest steps
  pub few : length ran.order ≤ limit
  pub ended : (rest ≡ []) ⊎ (length ran.order ≡ limit)

-- They are stuck behind fewer operations than their limit says.
pub record StuckWithin (p : PlainProgram) (frozen h : List Object) (waiting : List Invocation) (budget limit : ℕ) : Type 0 where
  pub behind : StuckBehind p frozen h waiting budget
  pub few : length behind.ran.order < limit

abbrev pub Progressed : PlainProgram → List Object → List Object → List Invocation → ℕ → ℕ → List Object → List Invocation → Progress → Type 0
Progressed p frozen h waiting budget limit after rest (Went steps) = WentTo p frozen h waiting budget limit after rest steps
Progressed p frozen h waiting budget limit after rest Stuck = StuckWithin p frozen h waiting budget limit
