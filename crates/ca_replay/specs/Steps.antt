-- What a step of the pending machine answers.
use Rattle.std.specs.Prelude.{ℕ, ◌≡◌, List, ◌∷◌, map, Some, slice_get}
use Rattle.ca_program.specs.Plain.{PlainProgram}
use Rattle.ca_model.specs.declared.value.Object.{Object}
use Rattle.ca_model.specs.Typed.{TypedHeap}
use Rattle.ca_meaning.specs.Expressions.{Invocation}
use Rattle.ca_meaning.specs.Multisets.{SameItems}
use Rattle.ca_meaning.specs.Sections.{Sectioned, stopped, over, section}
use Rattle.ca_meaning.specs.WellTyped.{AllWellTyped}
use Rattle.ca_parallel.specs.declared.op.Op.{Op}
use Rattle.ca_parallel.specs.Calls.{invocation_of, invocations_of}
use Rattle.ca_parallel.specs.Notes.{op_of}
use Rattle.ca_parallel.specs.Parallel.{ParallelFrom}
use Rattle.ca_order_laws.specs.Pending.{PendingRun}
use Rattle.ca_run.specs.Turns.{RanThis}
use Rattle.ca_replay.specs.declared.machine.StepAnswer.{StepAnswer}
use Rattle.ca_replay.specs.declared.machine.StepAnswer.TheVariants.{Done, NotPending, Trapped, Spent}

-- The machine stands so behind some of its steps, from well typed operations of a parallel extent on a typed heap.
pub record Stands (p : PlainProgram) (frozen now : List Object) (waiting : List Invocation) : Type 0 where
  pub first : List Invocation
  pub order : List Invocation
  pub steps : ℕ
  pub heap : TypedHeap p frozen
  pub typed : AllWellTyped p frozen first
  pub parallel : ParallelFrom p (map op_of first)
  pub run : PendingRun p frozen now waiting order frozen first steps

-- nothing changed
pub record Kept (h after : List Object) (waiting rest : List Invocation) : Type 0 where
  pub heap : after ≡ h
  pub waits : rest ≡ waiting

-- The operation waits, and its section on the object that is there now ends so.
pub record EndsSo (p : PlainProgram) (frozen h : List Object) (waiting : List Invocation) (left : ℕ) (i : Invocation) (end : Sectioned) : Type 0 where
  pub others : List Invocation
  pub object : Object
  pub waited : SameItems waiting (i ∷ others)
  pub found : slice_get h i.receiver ≡ Some object
  pub section : section p frozen i.receiver object i.op i.arguments left ≡ end

-- it doesn't wait
abbrev pub DoesntWait : List Invocation → Invocation → Type 0
DoesntWait waiting i = (others : List Invocation) → ¬ SameItems waiting (i ∷ others)

abbrev pub StepIs : PlainProgram → List Object → List Object → List Invocation → ℕ → Invocation → List Object → List Invocation → StepAnswer → Type 0
StepIs p frozen h waiting left i after rest (Done steps) = RanThis p frozen h waiting left i after rest steps
StepIs p frozen h waiting left i after rest NotPending = DoesntWait waiting i × Kept h after waiting rest
StepIs p frozen h waiting left i after rest (Trapped t) = EndsSo p frozen h waiting left i (stopped t) × Kept h after waiting rest
StepIs p frozen h waiting left i after rest Spent = EndsSo p frozen h waiting left i over × Kept h after waiting rest

-- the call at the place is gone, whatever the order of the others
pub record TakenOut (old : List Op) (place : ℕ) (now : List Op) : Type 0 where
  pub others : (op : Op) → slice_get old place ≡ Some op → SameItems (invocations_of old) (invocation_of op ∷ invocations_of now)
