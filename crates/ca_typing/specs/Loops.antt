-- The numbers of the loops of a program.
use Rattle.std.specs.Prelude.{◌≡◌, Contains}
use Rattle.ca_program.specs.declared.program.LoopId.{LoopId}
use Rattle.ca_program.specs.Plain.{PlainProgram, Statement}
use Rattle.ca_parallel.specs.Marks.{HasSite, loops_of_program}
use Rattle.ca_parallel.specs.Numbered.{LoopsRise}

-- The numbers of the `for` statements of operations and of `main` rise in the order of the text, so each number names
-- at most one of them.
pub record LoopsNumbered (p : PlainProgram) : Type 0 where
  pub rise : LoopsRise p
  pub one : (id : LoopId) (x y : Statement) → Contains (loops_of_program p) x → Contains (loops_of_program p) y → HasSite x id → HasSite y id → x ≡ y
