use Rattle.std.proofs.Common.{length, ◌-◌, ◌≤◌}
use Rattle.ca_program.specs.View.{program_view}
use Rattle.ca_parallel.specs.Calls.{invocations_of}
use Rattle.ca_beside.specs.Beside.{present}
use Rattle.ca_replay.specs.Steps.{Stands}
use Rattle.ca_replay.proofs.Blocks.{Behind}
use Rattle.ca_replay.proofs.following.follow_block.Given as goal

abbrev pub invariant-lines : goal.invariant-lines
invariant-lines l = Behind (program_view l.program) l.heap (present l.heap l.fn.machine.beside) (invocations_of l.fn.machine.waiting.items) l.left l.lines (present l.heap l.machine.beside) (invocations_of l.machine.waiting.items) l.still l.at × (l.at ≤ length l.lines) × Stands (program_view l.program) l.heap (present l.heap l.machine.beside) (invocations_of l.machine.waiting.items)

abbrev pub decreases-lines : goal.decreases-lines
decreases-lines l = length l.lines - l.at
