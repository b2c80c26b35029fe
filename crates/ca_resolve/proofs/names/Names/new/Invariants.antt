use Rattle.std.proofs.Common.{map, take}
use Rattle.ca_resolve.specs.clauses.Index.{IsIndex}
use Rattle.ca_resolve.proofs.names.Names.new.Given as goal

abbrev pub invariant-loop-i : goal.invariant-loop-i
invariant-loop-i l = IsIndex l.numbers (map (λ n. n.now) (take l.i l.name-items))
