use Rattle.std.proofs.Common.{◌≡◌, ◌+◌, ◌++◌, reverse, length}
use Rattle.ca_folds.specs.Operators.{cancels}
use Rattle.ca_folds.specs.Operands.{merge}
use Rattle.ca_forms.specs.Compare.{scalar_cmp}
use Rattle.ca_forms.proofs.operands.merged.Given as goal

abbrev pub invariant-loop-ys : goal.invariant-loop-ys
invariant-loop-ys l = l.all.items ++ merge (cancels l.op) scalar_cmp (reverse l.xs.items) (reverse l.ys.items) ≡ merge (cancels l.op) scalar_cmp l.fn.first.items l.fn.second.items

abbrev pub decreases-loop-ys : goal.decreases-loop-ys
decreases-loop-ys l = length l.xs.items + length l.ys.items
