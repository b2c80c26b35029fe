use Rattle.std.proofs.Common.{map}
use Rattle.ca_tree.specs.View.{class_view}
use Rattle.ca_resolve.specs.Scopes.{class_names}
use Rattle.ca_resolve.specs.View.{numbers_view}
use Rattle.ca_resolve.proofs.Tables.{Listed}
use Rattle.ca_resolve.proofs.classes.ClassTable.new.Given as goal

abbrev pub invariant-loop-class : goal.invariant-loop-class
invariant-loop-class l =
    Listed (class_names (map class_view l.classes)) (record { field = 0; operation = 0; function = 0 }) l.classes l.class-index l.members.items l.next.class (numbers_view l.next)
