-- Operations in order, as plain values, and how their serial run ends.
use Rattle.std.specs.Prelude.{◌≡◌, ◌+◌, ℕ, List, [], ◌++◌, map}
use Rattle.ca_program.specs.declared.program.OpId.{OpId}
use Rattle.ca_program.specs.Plain.{PlainProgram}
use Rattle.ca_model.specs.declared.value.Value.{Value as Datum}
use Rattle.ca_model.specs.declared.value.Object.{Object}
use Rattle.ca_meaning.specs.Expressions.{Invocation, invocation}
use Rattle.ca_meaning.specs.Flows.{Flow, goes_on, gives_back, stops, runs_out}
use Rattle.ca_meaning.specs.Serial.{World, fresh, serial_ops}
use Rattle.ca_parallel.specs.declared.op.Op.{Op}

abbrev pub invocation_of : Op → Invocation
invocation_of o = invocation o.receiver o.op o.args

abbrev pub invocations_of : List Op → List Invocation
invocations_of os = map invocation_of os

abbrev pub operation_of : Op → OpId
operation_of o = o.op

-- The serial run of operations in order from a heap, within a budget, is done with this heap and these steps,
-- whatever it prints.
pub record RunsTo (p : PlainProgram) (h : List Object) (is : List Invocation) (budget : ℕ) (after : List Object) (steps : ℕ) : Type 0 where
  pub prints : List Datum
  pub left : ℕ
  pub run : serial_ops p is (fresh h) budget ≡ goes_on [] (record { heap = after; prints = prints; notes = [] }) left
  pub taken : budget ≡ steps + left

-- the world with these prints in front of its own
abbrev pub behind_prints : List Datum → World → World
behind_prints ps w = record { heap = w.heap; prints = ps ++ w.prints; notes = w.notes }

-- the run that leaves such a world
abbrev pub run_behind_prints : List Datum → Flow World → Flow World
run_behind_prints ps (goes_on ls w k) = goes_on ls (behind_prints ps w) k
run_behind_prints ps (gives_back v w k) = gives_back v (behind_prints ps w) k
run_behind_prints ps (stops t w) = stops t (behind_prints ps w)
run_behind_prints ps (runs_out w) = runs_out (behind_prints ps w)
