-- What marks ask of a program: it is typed, the numbers of its loops rise, so each names at most one loop, and no counter of
-- a loop is named outside its loop. Each program of the checker is so.
use Rattle.std.specs.Prelude.{◌≡◌, Contains}
use Rattle.ca_program.specs.declared.program.LoopId.{LoopId}
use Rattle.ca_program.specs.Plain.{PlainProgram, Statement}
use Rattle.ca_meaning.specs.ProgramTyped.{ProgramTyped}
use Rattle.ca_parallel.specs.Marks.{HasSite, loops_of_program}
use Rattle.ca_parallel.specs.Numbered.{LoopsRise}
use Rattle.ca_parallel.specs.Scoped.{OperationsScoped}

-- a number names at most one loop
abbrev pub OneLoopEach : PlainProgram → Type 0
OneLoopEach p = (id : LoopId) (x y : Statement) → Contains (loops_of_program p) x → Contains (loops_of_program p) y → HasSite x id → HasSite y id → x ≡ y

pub record Checked (p : PlainProgram) : Type 0 where
  pub typed : ProgramTyped p
  pub numbered : LoopsRise p
  pub one : OneLoopEach p
  pub scoped : OperationsScoped p
