use Rattle.std.proofs.Common.{◌≡◌, ◌++◌, drop, map}
use Rattle.std.specs.Prelude.{flat_map}
use Rattle.ca_program.specs.View.{method_view}
use Rattle.ca_extent.specs.declared.numbers.Callees.TheVariants.{Functions}
use Rattle.ca_extent.specs.clauses.Reached.{calls_at}
use Rattle.ca_extent.proofs.extent.values_called.Given as goal

abbrev pub invariant-loop-n : goal.invariant-loop-n
invariant-loop-n l = l.numbers.items ++ flat_map (calls_at Functions (map method_view l.methods)) (drop l.n-index l.ops) ≡ flat_map (calls_at Functions (map method_view l.methods)) l.ops
