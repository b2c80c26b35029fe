-- Sound marks: the calls of the marked operations, and the marked loops, may run in any order.
use Rattle.std.specs.Prelude.{◌≡◌, true, List, [], ◌∷◌, ◌++◌, flat_map, Contains}
use Rattle.ca_program.specs.declared.program.LoopId.{LoopId}
use Rattle.ca_program.specs.declared.program.OpId.{OpId}
use Rattle.ca_program.specs.Plain.{PlainProgram, PlainMethod, Statement, for_loop}
use Rattle.ca_parallel.specs.Bodies.{calls_of, fors_in_all}
use Rattle.ca_parallel.specs.Separable.{IsSeparated}
use Rattle.ca_parallel.specs.Loops.{IsCallLoop}
use Rattle.ca_parallel.specs.Parallel.{ParallelFrom}
use Rattle.ca_parallel.specs.Lists.{PlainMarks}

-- the `for` statements of operations and of `main`
abbrev pub loops_of_method : PlainMethod → List Statement
loops_of_method m = fors_in_all m.body.statements

abbrev pub loops_of_program : PlainProgram → List Statement
loops_of_program p = flat_map loops_of_method p.ops ++ fors_in_all p.main.statements

-- the `for` statement has this number
abbrev pub HasSite : Statement → LoopId → Type 0
HasSite (for_loop line site part first c next body) id = site ≡ id
HasSite _ id = ⊥

-- A call loop whose calls have a parallel extent. Its own expressions read, directly or through value
-- methods, only locals and constants of that extent, and divide by literals other than 0 alone.
pub record SoundLoop (p : PlainProgram) (loop : Statement) : Type 0 where
  pub form : IsCallLoop loop
  pub calls : ParallelFrom p (calls_of loop)
  pub constant : IsSeparated p calls.extent.written true loop

pub record SoundMarks (p : PlainProgram) (marks : PlainMarks) : Type 0 where
  pub operations : (op : OpId) → Contains marks.ops op → ParallelFrom p (op ∷ [])
  pub sites : (id : LoopId) → Contains marks.loops id → (loop : Statement) → Contains (loops_of_program p) loop → HasSite loop id → SoundLoop p loop
