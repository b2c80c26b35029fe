use Rattle.std.proofs.Common.{◌≡◌, ◌≤◌, map, drop, length}
use Rattle.ca_norm.specs.Terms.{shape, terms_of}
use Rattle.ca_order.specs.clauses.Added.{added_all}
use Rattle.ca_order.proofs.points.+points.Given as goal

abbrev pub invariant-add_all-loop-left : goal.invariant-add_all-loop-left
invariant-add_all-loop-left l = (l.left ≤ length l.terms) × (l.set.keys ≡ added_all (terms_of (map shape (drop l.left l.terms))) l.fn.set.keys)

abbrev pub decreases-add_all-loop-left : goal.decreases-add_all-loop-left
decreases-add_all-loop-left l = l.left
