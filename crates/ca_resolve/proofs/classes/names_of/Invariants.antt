use Rattle.std.proofs.Common.{◌≡◌, map, take}
use Rattle.ca_tree.specs.View.{class_view}
use Rattle.ca_resolve.specs.Scopes.{class_names}
use Rattle.ca_resolve.proofs.classes.names_of.Given as goal

abbrev pub invariant-loop-class : goal.invariant-loop-class
invariant-loop-class l = map (λ n. n.now) l.all.items ≡ class_names (map class_view (take l.class-index l.classes))
