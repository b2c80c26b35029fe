use Rattle.std.proofs.Common.{◌≡◌, drop}
use Rattle.ca_tree.specs.View.{expressions_view}
use Rattle.ca_emit.specs.Receivers.{same_expressions}
use Rattle.ca_emit.proofs.receivers.+same.Given as goal

abbrev pub invariant-same_expressions-loop-place : goal.invariant-same_expressions-loop-place
invariant-same_expressions-loop-place l =
    same_expressions (expressions_view (drop l.place l.xs)) (expressions_view (drop l.place l.ys)) ≡ same_expressions (expressions_view l.xs) (expressions_view l.ys)
