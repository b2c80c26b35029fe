-- Engines: what one answers of the serial run of operations in order.
use Rattle.std.specs.Prelude.{◌≡◌, ℕ, List}
use Rattle.ca_program.specs.Plain.{PlainProgram}
use Rattle.ca_model.specs.declared.value.Object.{Object}
use Rattle.ca_meaning.specs.Expressions.{Invocation}
use Rattle.ca_parallel.specs.Calls.{RunsTo}
use Rattle.ca_serial.specs.declared.extents.ExtentAnswer.{ExtentAnswer}
use Rattle.ca_serial.specs.declared.extents.ExtentAnswer.TheVariants.{Done, Declined}

-- Done: the heap after it and the steps are those of the serial run. Declined: the heap is as it was.
abbrev pub Answers : PlainProgram → List Object → List Invocation → ℕ → List Object → ExtentAnswer → Type 0
Answers p before is budget after (Done steps) = RunsTo p before is budget after steps
Answers p before is budget after Declined = after ≡ before

-- the serial run is done within the budget with no heap
abbrev pub IsNotDone : PlainProgram → List Object → List Invocation → ℕ → Type 0
IsNotDone p before is budget = (after : List Object) (steps : ℕ) → ¬ RunsTo p before is budget after steps
