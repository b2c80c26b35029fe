use Rattle.std.proofs.Common.{◌≡◌, ◌++◌, drop, map}
use Rattle.ca_extent.specs.clauses.Ids.{op_number}
use Rattle.ca_extent.proofs.extent.numbers_of_ops.Given as goal

abbrev pub invariant-loop-op : goal.invariant-loop-op
invariant-loop-op l = l.numbers.items ++ map op_number (drop l.op-index l.ops) ≡ map op_number l.ops
