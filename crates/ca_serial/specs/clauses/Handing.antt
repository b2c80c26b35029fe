-- What is handed on, and where the machine stands behind it.
use Rattle.std.specs.Prelude.{◌≡◌, ℕ, Bool, true, false, List, [], ◌∷◌, ◌++◌, Option, Some, None}
use Rattle.ca_program.specs.declared.program.OpId.{OpId}
use Rattle.ca_program.specs.Plain.{PlainProgram}
use Rattle.ca_program.specs.Instructions.{Code}
use Rattle.ca_model.specs.declared.value.Value.{Value as Datum}
use Rattle.ca_model.specs.declared.value.Object.{Object}
use Rattle.ca_meaning.specs.Expressions.{Invocation}
use Rattle.ca_meaning.specs.Serial.{Note, World, in_heap, serial_ops}
use Rattle.ca_parallel.specs.Lists.{note, noted}
use Rattle.ca_code_laws.specs.Machine.{Begun, behind, plainly, Accesses, State, Spent, call_of, Comes, Ends}
use Rattle.ca_code_laws.specs.Runs.{Into, behind_or}
use Rattle.ca_steps.specs.declared.frames.Frames.{Frames}
use Rattle.ca_steps.specs.Stands.{state_of}

-- the world with a note of operations that are handed on
abbrev pub with_note : World → List Invocation → ℕ → World
with_note w is k = noted w (note w.heap is k)

-- the world with these notes behind its own
abbrev pub with_notes : World → List Note → World
with_notes w ns = record { heap = w.heap; prints = w.prints; notes = w.notes ++ ns }

-- whether what gives these notes is gone into, if there is one; so many stand before it
abbrev pub Chose : Into → ℕ → Bool → List Note → Type 0
Chose into n b [] = Unit {0}
Chose into n b (x ∷ ns) = into n ≡ b

-- what the machine is given for them, with the locals behind them
abbrev pub given : PlainProgram → World → List Invocation → ℕ → List Datum → Begun World
given p w is k ls = behind_or ls (with_note w is k) (serial_ops p is (with_note w is k) k)

-- An engine was asked: they are done, with so many steps left and this heap; or they are to run here, in the heap as it was.
abbrev pub Given : PlainProgram → World → List Invocation → ℕ → List Object → Option ℕ → Type 0
Given p w is k after (Some left) = (ls : List Datum) → given p w is k ls ≡ behind ls (in_heap (with_note w is k) after) left
Given p w is k after None = (after ≡ w.heap) × ((ls : List Datum) → given p w is k ls ≡ plainly (with_note w is k))

-- that call
abbrev pub due_at : Code → Frames → OpId → ℕ → ℕ → Invocation
due_at c m op first r = call_of c (state_of m (tt {0})) op first r

-- the run goes on from there, or a step too many is due
abbrev pub Leads : {S : Type 0} → Accesses S → Code → State S → Bool → Frames → S → Type 0
Leads acc c s true m x = Comes acc c s (state_of m x)
Leads acc c s false m x = Ends acc c s (Spent x)
