use Rattle.std.proofs.Common.{◌++◌, drop}
use Rattle.ca_program.specs.View.{program_view}
use Rattle.ca_parallel.specs.Calls.{invocations_of}
use Rattle.ca_beside.specs.Beside.{present}
use Rattle.ca_run.proofs.Going.{Going}
use Rattle.ca_workers.proofs.alone.run_alone.Given as goal

-- behind a run with so many steps left the others that were handed in wait, and what was listed
abbrev pub invariant-turns : goal.invariant-turns
invariant-turns g l =
    Going (program_view l.program) l.heap (present l.heap l.fn.beside) (invocations_of (drop l.fn.next l.ops) ++ invocations_of l.fn.waiting.items) l.left 0 (present l.heap l.beside) (invocations_of (drop l.next l.ops) ++ invocations_of l.waiting.items) l.still
