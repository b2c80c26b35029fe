-- Two operations whose verdict tells how they commute.
use Rattle.std.specs.Prelude.{List, Contains}
use Rattle.ca_program.specs.declared.program.OpId.{OpId}
use Rattle.ca_program.specs.Plain.{PlainProgram}
use Rattle.ca_meaning.specs.ProgramTyped.{ProgramTyped}
use Rattle.ca_parallel.specs.Extents.{Extent, IsExtentOf, operation_body}
use Rattle.ca_parallel.specs.Numbered.{LoopsRise}
use Rattle.ca_parallel.specs.Scoped.{Scoped}

-- The program is typed, the numbers of its loops rise, both operations are of an extent, and no counter of a loop is
-- named outside its loop. Each program of the checker is so.
pub record Analysed (p : PlainProgram) (x : Extent) (a b : OpId) : Type 0 where
  pub typed : ProgramTyped p
  pub numbered : LoopsRise p
  pub roots : List OpId
  pub extent : IsExtentOf p roots x
  pub first : Contains x.ops a
  pub second : Contains x.ops b
  pub first_scoped : Scoped (operation_body p a)
  pub second_scoped : Scoped (operation_body p b)
