-- The numbers of the loops of a program rise in the order of the text, as those of each program of the checker do.
use Rattle.std.specs.Prelude.{◌<◌}
use Rattle.ca_program.specs.declared.program.LoopId.{LoopId}
use Rattle.ca_program.specs.Plain.{PlainProgram, Statement}
use Rattle.ca_parallel.specs.ExtentsOf.{Rises}
use Rattle.ca_parallel.specs.Marks.{HasSite, loops_of_program}

-- the first one's number is less
abbrev pub LoopBefore : Statement → Statement → Type 0
LoopBefore x y = (i j : LoopId) → HasSite x i → HasSite y j → i.0 < j.0

-- those of the `for` statements of operations and of `main`
abbrev pub LoopsRise : PlainProgram → Type 0
LoopsRise p = Rises LoopBefore (loops_of_program p)
