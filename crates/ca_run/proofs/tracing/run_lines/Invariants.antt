use Rattle.std.proofs.Common.{◌≤◌, ◌≡◌}
use Rattle.ca_program.specs.View.{program_view}
use Rattle.ca_parallel.specs.Calls.{invocations_of}
use Rattle.ca_beside.specs.Beside.{present}
use Rattle.ca_run.proofs.Lines.{Recording}
use Rattle.ca_run.proofs.tracing.run_lines.Given as goal

abbrev pub invariant-turns : goal.invariant-turns
invariant-turns g l = Recording (program_view l.program) l.heap (present l.heap l.fn.beside) (invocations_of l.fn.waiting.items) l.left l.fn.lines.items (present l.heap l.beside) (invocations_of l.waiting.items) l.still l.lines.items

abbrev pub decreases-turns : goal.decreases-turns
decreases-turns g l = l.still
