use Rattle.std.proofs.Common.{◌≡◌, ◌++◌, drop, map}
use Rattle.std.specs.Prelude.{flat_map}
use Rattle.ca_program.specs.View.{method_view}
use Rattle.ca_extent.specs.clauses.Targets.{written_at}
use Rattle.ca_extent.proofs.extent.fields_written.Given as goal

abbrev pub invariant-loop-n : goal.invariant-loop-n
invariant-loop-n l = l.pairs.items ++ flat_map (written_at (map method_view l.methods)) (drop l.n-index l.ops) ≡ flat_map (written_at (map method_view l.methods)) l.ops
