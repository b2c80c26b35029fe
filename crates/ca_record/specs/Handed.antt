-- What an engine is handed, and what it is asked for.
use Rattle.std.specs.Prelude.{ℕ, ◌<◌, ◌^◌, ◌≡◌, List, Result, IfOk, OnErr, map}
use Rattle.ca_base.specs.declared.faults.Memory.{Memory}
use Rattle.ca_program.specs.Plain.{PlainProgram}
use Rattle.ca_model.specs.declared.value.Object.{Object}
use Rattle.ca_model.specs.Typed.{TypedHeap}
use Rattle.ca_meaning.specs.Expressions.{Invocation}
use Rattle.ca_meaning.specs.ProgramTyped.{ProgramTyped}
use Rattle.ca_meaning.specs.WellTyped.{AllWellTyped}
use Rattle.ca_parallel.specs.Calls.{invocations_of, operation_of}
use Rattle.ca_parallel.specs.Parallel.{ParallelFrom}
use Rattle.ca_parallel.specs.declared.op.Op.{Op}
use Rattle.ca_serial.specs.declared.extents.ExtentAnswer.{ExtentAnswer}
use Rattle.ca_trace.specs.declared.line.Line.{Line}
use Rattle.ca_run.specs.Traced.{Traces}

-- a typed program and heap, well-typed operations that may run in any order, and a budget that a u64 holds
pub record MayBeHanded (p : PlainProgram) (h : List Object) (ops : List Op) (budget : ℕ) : Type 0 where
  pub program : ProgramTyped p
  pub heap : TypedHeap p h
  pub typed : AllWellTyped p h (invocations_of ops)
  pub parallel : ParallelFrom p (map operation_of ops)
  pub fits : budget < 2 ^ 64

pub record ServesTraced (p : PlainProgram) (h : List Object) (is : List Invocation) (budget : ℕ) (after : List Object) (before lines : List Line) (answer : Result ExtentAnswer Memory) : Type 0 where
  pub traced : IfOk answer (λ a. Traces p h is budget after before lines a)
  pub heap_kept : OnErr answer (after ≡ h)
  pub lines_kept : OnErr answer (lines ≡ before)
