use Rattle.std.proofs.Common.{◌≡◌, drop}
use Rattle.ca_program.specs.View.{program_view}
use Rattle.ca_parallel.specs.Calls.{invocations_of}
use Rattle.ca_sections.specs.InOrder.{Continues}
use Rattle.ca_undo.specs.Puts.{before}
use Rattle.ca_workers.proofs.ahead.run_front.Given as goal

-- so many were done so far, and all can be undone
abbrev pub invariant-front : goal.invariant-front
invariant-front g l =
    Continues (program_view l.program) l.fn.heap (invocations_of l.calls) l.left l.heap (invocations_of (drop l.count l.calls)) l.still
    × (l.count ≡ l.op-index)
    × (before l.one.kept l.heap ≡ l.fn.heap)
