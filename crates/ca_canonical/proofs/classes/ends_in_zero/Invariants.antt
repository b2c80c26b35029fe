use Rattle.std.proofs.Common.{◌≡◌, drop, false}
use Rattle.ca_tree.specs.View.{statements_view}
use Rattle.ca_canonical.proofs.Ends.{zero_behind}
use Rattle.ca_canonical.proofs.classes.ends_in_zero.Given as goal

abbrev pub invariant-loop-s : goal.invariant-loop-s
invariant-loop-s l = zero_behind false (statements_view l.items) ≡ zero_behind l.last (statements_view (drop l.s-index l.items))
