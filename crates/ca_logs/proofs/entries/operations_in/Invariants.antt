use Rattle.std.proofs.Common.{◌≡◌, map, take}
use Rattle.ca_logs.specs.Telling.{operation_in}
use Rattle.ca_logs.proofs.entries.operations_in.Given as goal

abbrev pub invariant-loop-task : goal.invariant-loop-task
invariant-loop-task l = l.ops.items ≡ map operation_in (take l.task-index l.tasks)
