use Rattle.std.proofs.Common.{map, drop}
use Rattle.ca_tree.specs.View.{class_view}
use Rattle.ca_resolve.specs.Judged.{Judged, Answers, fine}
use Rattle.ca_resolve.specs.View.{classes_view}
use Rattle.ca_types.specs.Classes.{Parts, no_parts, behind_class, first_class}
use Rattle.ca_types.specs.clauses.Adding.{add_class}
use Rattle.ca_types.specs.clauses.View.{class_env, parts_view}
use Rattle.ca_types.proofs.Lists.{Rest}
use Rattle.ca_types.proofs.classes.check_classes.Given as goal

abbrev pub invariant-loop-class : goal.invariant-loop-class
invariant-loop-class l =
    (front : Judged Parts) × Answers parts_view l.answers front
    × Rest behind_class add_class (first_class (classes_view l.table)) (fine no_parts) (map class_view l.classes) (class_env l.walk) front (map class_view (drop l.class-index l.classes))
