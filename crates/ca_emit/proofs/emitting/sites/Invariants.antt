use Rattle.std.proofs.Common.{◌≡◌, ◌++◌, drop}
use Rattle.ca_program.specs.View.{program_view}
use Rattle.ca_emit.specs.Annotations.{sites_from}
use Rattle.ca_emit.specs.clauses.Seen.{methods_seen}
use Rattle.ca_emit.proofs.emitting.sites.Given as goal

abbrev pub invariant-loop-n : goal.invariant-loop-n
invariant-loop-n l = l.places.items ++ sites_from (program_view l.program) l.marks l.parallel l.n (drop l.n (methods_seen l.methods)) ≡ sites_from (program_view l.program) l.marks l.parallel 0 (methods_seen l.methods)
