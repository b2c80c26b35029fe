use Rattle.std.proofs.Common.{◌≡◌, ◌++◌, drop}
use Rattle.ca_emit.specs.clauses.Seen.{methods_seen}
use Rattle.ca_emit.proofs.Found.{of_classes}
use Rattle.ca_emit.proofs.parallel.operations.Given as goal

abbrev pub invariant-loop-class : goal.invariant-loop-class
invariant-loop-class l = methods_seen l.found.items ++ of_classes (drop l.class-index l.class-items) ≡ of_classes l.tree.classes.items
