-- Rounds that tell their operations, line by line.
use Rattle.std.specs.Prelude.{ℕ, ◌<◌, ◌≤◌, ◌≡◌, List, [], ◌++◌, Option, Some, None}
use Rattle.ca_program.specs.Plain.{PlainProgram}
use Rattle.ca_model.specs.declared.value.Object.{Object}
use Rattle.ca_meaning.specs.Expressions.{Invocation}
use Rattle.ca_parallel.specs.declared.op.Op.{Op}
use Rattle.ca_parallel.specs.Calls.{invocations_of}
use Rattle.ca_order_laws.specs.Pending.{PendingRun}
use Rattle.ca_logs.specs.declared.log.Entry.{Entry}
use Rattle.ca_logs.specs.declared.log.CellLog.{CellLog}
use Rattle.ca_logs.specs.Entries.{tasks_in, task_calls}
use Rattle.ca_logs.specs.LogOrder.{order_of}
use Rattle.ca_trace.specs.declared.line.Line.{Line}
use Rattle.ca_trace.specs.Lines.{steps_of}
use Rattle.ca_workers.specs.declared.turning.Turn.{Turn}
use Rattle.ca_workers.specs.clauses.Runs.{NoneWithin}

-- a line is added for each operation of a log, in its order
pub record Adds (before : List Line) (logs : List CellLog) (loose : List (List Entry)) (lines : List Line) : Type 0 where
  pub ops : List Op
  pub calls : invocations_of ops ≡ task_calls (tasks_in (order_of logs loose))
  pub added : lines ≡ before ++ steps_of ops

-- some of what waits ran to this heap, in the order of the lines that were added, and in so many steps, within the budget
pub record RanTold (p : PlainProgram) (frozen h : List Object) (waiting : List Invocation) (budget : ℕ) (before : List Line) (after : List Object) (rest : List Invocation) (lines : List Line) (steps : ℕ) : Type 0 where
  pub ops : List Op
  pub run : PendingRun p frozen after rest (invocations_of ops) h waiting steps
  pub within : steps ≤ budget
  pub added : lines ≡ before ++ steps_of ops

-- A round told some of what waits, and took a step at least; or no complete run is within the budget.
abbrev pub RoundTold : PlainProgram → List Object → List Object → List Invocation → ℕ → List Line → List Object → List Line → Option Turn → Type 0
RoundTold p frozen h waiting budget before after lines None = NoneWithin p frozen h waiting budget
RoundTold p frozen h waiting budget before after lines (Some t) = RanTold p frozen h waiting budget before after (task_calls t.rest.items) lines t.steps × (0 < t.steps)

-- Rounds told all that waits; or no complete run is within the budget.
abbrev pub ToldTo : PlainProgram → List Object → List Object → List Invocation → ℕ → List Line → List Object → List Line → Option ℕ → Type 0
ToldTo p frozen h waiting budget before last lines None = NoneWithin p frozen h waiting budget
ToldTo p frozen h waiting budget before last lines (Some steps) = RanTold p frozen h waiting budget before last [] lines steps
