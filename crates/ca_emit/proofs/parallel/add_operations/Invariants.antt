use Rattle.std.proofs.Common.{◌≡◌, ◌++◌, drop}
use Rattle.ca_emit.specs.Annotations.{operations_in}
use Rattle.ca_emit.specs.clauses.Seen.{members_seen, methods_seen}
use Rattle.ca_emit.proofs.parallel.add_operations.Given as goal

abbrev pub invariant-loop-m : goal.invariant-loop-m
invariant-loop-m l = methods_seen l.out.items ++ operations_in (members_seen (drop l.m-index l.members)) ≡ methods_seen l.initial.out.items ++ operations_in (members_seen l.members)
