use Rattle.std.proofs.Common.{◌≡◌, ◌++◌, drop, map}
use Rattle.ca_extent.specs.clauses.Ids.{function_of}
use Rattle.ca_extent.proofs.extent.functions_of.Given as goal

abbrev pub invariant-loop-n : goal.invariant-loop-n
invariant-loop-n l = l.functions.items ++ map function_of (drop l.n-index l.numbers) ≡ map function_of l.numbers
