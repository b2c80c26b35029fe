use Rattle.std.proofs.Common.{◌≡◌, ◌≤◌, ◌+◌, ◌-◌, ◌++◌, drop, length}
use Rattle.ca_forms.specs.Products.{merge}
use Rattle.ca_forms.proofs.products.merged.Given as goal

abbrev pub invariant-loop-i : goal.invariant-loop-i
invariant-loop-i l = (l.i ≤ length l.a) × (l.j ≤ length l.b) × (l.powers.items ++ merge (drop l.i l.a) (drop l.j l.b) ≡ merge l.a l.b)

abbrev pub decreases-loop-i : goal.decreases-loop-i
decreases-loop-i l = (length l.a - l.i) + (length l.b - l.j)
