-- Lines that an engine tells of what it is handed.
use Rattle.std.specs.Prelude.{ℕ, ◌≡◌, ◌≤◌, List, [], ◌∷◌, ◌++◌}
use Rattle.ca_program.specs.Plain.{PlainProgram}
use Rattle.ca_model.specs.declared.value.Object.{Object}
use Rattle.ca_meaning.specs.Expressions.{Invocation}
use Rattle.ca_parallel.specs.declared.op.Op.{Op}
use Rattle.ca_parallel.specs.Calls.{invocations_of}
use Rattle.ca_order_laws.specs.Pending.{PendingRun}
use Rattle.ca_serial.specs.declared.extents.ExtentAnswer.{ExtentAnswer}
use Rattle.ca_serial.specs.declared.extents.ExtentAnswer.TheVariants.{Declined}
use Rattle.ca_serial.specs.Extents.{Answers, IsNotDone}
use Rattle.ca_trace.specs.declared.line.Line.{Line}
use Rattle.ca_trace.specs.declared.line.Line.TheVariants.{End}
use Rattle.ca_trace.specs.Lines.{steps_of}
use Rattle.ca_trace.specs.Engines.{Recorded}

-- The answer is that of the serial run, declined where that isn't done within the budget, and lines of the list are added.
pub record Traces (p : PlainProgram) (h : List Object) (is : List Invocation) (budget : ℕ) (after : List Object) (before lines : List Line) (answer : ExtentAnswer) : Type 0 where
  pub answers : Answers p h is budget after answer
  pub declined : answer ≡ Declined → IsNotDone p h is budget
  pub recorded : Recorded before p h is budget lines

-- Behind the lines before stand those of all operations, in the order in which they ran, and the end of a block.
pub record Told (p : PlainProgram) (frozen h : List Object) (is : List Invocation) (left : ℕ) (before : List Line) (after : List Object) (lines : List Line) (steps : ℕ) : Type 0 where
  pub ops : List Op
  pub run : PendingRun p frozen after [] (invocations_of ops) h is steps
  pub within : steps ≤ left
  pub added : lines ≡ before ++ (steps_of ops ++ End ∷ [])

-- the lines before stay
pub record LinesBehind (before lines : List Line) : Type 0 where
  pub more : List Line
  pub is : lines ≡ before ++ more
