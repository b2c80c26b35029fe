use Rattle.std.proofs.Common.{map, take}
use Rattle.ca_parallel.specs.Calls.{operation_of}
use Rattle.ca_schedule.proofs.Alike.{AreAlike}
use Rattle.ca_schedule.proofs.roots.operations.Given as goal

abbrev pub invariant-loop-op : goal.invariant-loop-op
invariant-loop-op l = AreAlike l.ids.items (map operation_of (take l.op-index l.ops))
