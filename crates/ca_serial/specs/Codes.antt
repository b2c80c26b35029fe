-- A program laid out with marks: each body of it, and once more those that heed the marks.
use Rattle.std.specs.Prelude.{ℕ}
use Rattle.ca_program.specs.Plain.{PlainProgram}
use Rattle.ca_program.specs.Instructions.{Code}
use Rattle.ca_parallel.specs.Lists.{PlainMarks}
use Rattle.ca_code_laws.specs.Heeding.{HeedingLaidOut, MainHeeds}
use Rattle.ca_code_laws.specs.Noted.{EndsNoted}
use Rattle.ca_code_laws.specs.Told.{IsLaidOut}

-- `main`, which heeds the marks, begins at the place
pub record IsMarked (marks : PlainMarks) (p : PlainProgram) (c : Code) (at : ℕ) : Type 0 where
  pub laid : IsLaidOut p c
  pub heeding : HeedingLaidOut marks p c
  pub main : MainHeeds marks p c at

-- what a run with marks rests on: bodies stand in the code, and `main`, which begins at the place, does what that run does
pub record IsRun (marks : PlainMarks) (p : PlainProgram) (c : Code) (at : ℕ) : Type 0 where
  pub laid : IsLaidOut p c
  pub ends : EndsNoted p marks c at
