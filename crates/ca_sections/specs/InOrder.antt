-- Calls that run in a heap one after the other: what came of a call, and of the first ones of some calls.
use Rattle.std.specs.Prelude.{◌≡◌, ◌≤◌, ℕ, List, [], Option, Some, None}
use Rattle.ca_program.specs.Plain.{PlainProgram}
use Rattle.ca_model.specs.declared.value.Value.{Value as Datum}
use Rattle.ca_model.specs.declared.value.Object.{Object}
use Rattle.ca_model.specs.Typed.{TypedHeap}
use Rattle.ca_meaning.specs.Expressions.{Invocation}
use Rattle.ca_meaning.specs.Flows.{Flow, goes_on}
use Rattle.ca_meaning.specs.Serial.{World, fresh, operations_of, run_call, serial_ops}
use Rattle.ca_meaning.specs.WellTyped.{AllWellTyped}
use Rattle.ca_steps.specs.declared.running.Halt.{Halt}
use Rattle.ca_steps.specs.declared.running.Halt.TheVariants.{Ends, Traps, Spends, Leaves, Fails, Memory as HaltMemory}

-- A flow of a world with this heap is done with this one and so many steps left, and printed nothing; or it isn't done.
abbrev pub EndsIn : Flow World → List Object → Option ℕ → Type 0
EndsIn flow after (Some left) = flow ≡ goes_on [] (fresh after) left
EndsIn flow after None = (ls : List Datum) (w : World) (k : ℕ) → ¬ (flow ≡ goes_on ls w k)

-- what came of a call, and of calls in their order
abbrev pub CallEnds : PlainProgram → List Object → Invocation → ℕ → List Object → Option ℕ → Type 0
CallEnds p h i budget after left = EndsIn (run_call (operations_of p) [] i (fresh h) budget) after left

abbrev pub CallsEnd : PlainProgram → List Object → List Invocation → ℕ → List Object → Option ℕ → Type 0
CallsEnd p h is budget after left = EndsIn (serial_ops p is (fresh h) budget) after left

-- What is left of so many steps by how a body halts, or that it isn't done. Of one that leaves or fails nothing is said.
abbrev pub LeftBy : Halt → ℕ → Option ℕ → Type 0
LeftBy Ends left still = still ≡ Some left
LeftBy (Traps kind) left still = still ≡ None
LeftBy Spends left still = still ≡ None
LeftBy Leaves left still = ⊥
LeftBy Fails left still = ⊥
LeftBy HaltMemory left still = ⊥

-- The first ones of some calls ran. The others, in the heap that is there and with the steps that are left, end as all of them do
-- from where these began.
pub record Continues (p : PlainProgram) (h : List Object) (all : List Invocation) (budget : ℕ) (now : List Object) (rest : List Invocation) (left : ℕ) : Type 0 where
  pub same : serial_ops p all (fresh h) budget ≡ serial_ops p rest (fresh now) left
  pub heap : TypedHeap p now
  pub typed : AllWellTyped p now rest
  pub few : left ≤ budget
