use Rattle.std.proofs.Common.{◌≡◌, drop}
use Rattle.ca_program.specs.View.{program_view}
use Rattle.ca_parallel.specs.Calls.{invocations_of}
use Rattle.ca_sections.specs.InOrder.{Continues}
use Rattle.ca_undo.specs.Puts.{before}
use Rattle.ca_run.proofs.in_place.run_calls.Given as goal

-- so far each was done, and what undoes them stays
abbrev pub invariant-calls : goal.invariant-calls
invariant-calls g l =
    Continues (program_view l.program) l.fn.access.heap.now (invocations_of l.first) l.left l.access.heap.now (invocations_of (drop l.op-index l.first)) l.still
    × (before l.access.kept.now l.access.heap.now ≡ before l.fn.access.kept.now l.fn.access.heap.now)
    × (l.access.heap.ghost_name ≡ l.fn.access.heap.ghost_name)
    × (l.access.kept.ghost_name ≡ l.fn.access.kept.ghost_name)
    × (l.access.program.now ≡ l.fn.access.program.now)
