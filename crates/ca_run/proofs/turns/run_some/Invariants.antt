use Rattle.std.proofs.Common.{◌≤◌, ◌++◌, drop}
use Rattle.ca_program.specs.View.{program_view}
use Rattle.ca_parallel.specs.Calls.{invocations_of}
use Rattle.ca_beside.specs.Beside.{present}
use Rattle.ca_run.proofs.Going.{Turns}
use Rattle.ca_run.proofs.turns.run_some.Given as goal

-- behind so many turns, of which there are no more than the limit says, the others that were handed in wait, and what was listed
abbrev pub invariant-turns : goal.invariant-turns
invariant-turns g l =
    Turns (program_view l.program) l.heap (present l.heap l.fn.beside) (invocations_of (drop l.fn.next l.ops) ++ invocations_of l.fn.waiting.items) l.left l.counter (present l.heap l.beside) (invocations_of (drop l.next l.ops) ++ invocations_of l.waiting.items) l.still
    × (l.counter ≤ l.limit)
