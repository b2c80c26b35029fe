use Rattle.std.proofs.Common.{◌≡◌, ◌++◌, drop, map}
use Rattle.ca_extent.specs.clauses.Ids.{op_of}
use Rattle.ca_extent.proofs.extent.ops_of.Given as goal

abbrev pub invariant-loop-n : goal.invariant-loop-n
invariant-loop-n l = l.ops.items ++ map op_of (drop l.n-index l.numbers) ≡ map op_of l.numbers
