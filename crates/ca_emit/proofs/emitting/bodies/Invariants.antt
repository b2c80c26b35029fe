use Rattle.std.proofs.Common.{◌≡◌, ◌++◌, drop}
use Rattle.ca_emit.specs.Annotations.{bodies_from}
use Rattle.ca_emit.specs.clauses.Seen.{methods_seen}
use Rattle.ca_emit.proofs.emitting.bodies.Given as goal

abbrev pub invariant-loop-n : goal.invariant-loop-n
invariant-loop-n l = l.places.items ++ bodies_from l.ops l.n (drop l.n (methods_seen l.methods)) ≡ bodies_from l.ops 0 (methods_seen l.methods)
