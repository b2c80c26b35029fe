use Rattle.std.proofs.Common.{◌≡◌, ◌++◌, drop, map}
use Rattle.ca_extent.specs.clauses.Ids.{field_of}
use Rattle.ca_extent.proofs.extent.fields_of.Given as goal

abbrev pub invariant-loop-pair : goal.invariant-loop-pair
invariant-loop-pair l = l.fields.items ++ map field_of (drop l.pair-index l.pairs) ≡ map field_of l.pairs
