-- What an engine asks of what it is handed.
use Rattle.std.specs.Prelude.{map}
use Rattle.ca_program.specs.declared.program.OpId.{OpId}
use Rattle.ca_program.specs.Plain.{PlainProgram}
use Rattle.ca_model.specs.Typed.{TypedHeap}
use Rattle.ca_meaning.specs.Expressions.{Invocation}
use Rattle.ca_meaning.specs.Serial.{Note}
use Rattle.ca_meaning.specs.WellTyped.{AllWellTyped}
use Rattle.ca_parallel.specs.Parallel.{ParallelFrom}

abbrev pub op_of : Invocation → OpId
op_of i = i.op

-- a typed heap, and operations that are well typed in it and may run in any order
pub record NoteGood (p : PlainProgram) (n : Note) : Type 0 where
  pub heap : TypedHeap p n.heap
  pub typed : AllWellTyped p n.heap n.first
  pub parallel : ParallelFrom p (map op_of n.first)
