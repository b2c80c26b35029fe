use Rattle.std.proofs.Common.{◌≡◌, length}
use Rattle.ca_folds.specs.Operators.{cancels}
use Rattle.ca_folds.specs.Operands.{merge}
use Rattle.ca_folds.proofs.Rising.{Rising}
use Rattle.ca_forms.specs.Compare.{scalar_cmp}
use Rattle.ca_forms.proofs.operands.put_all.Given as goal

abbrev pub invariant-operands : goal.invariant-operands
invariant-operands l = Rising scalar_cmp l.all.items × Rising scalar_cmp l.rest.items × (merge (cancels l.op) scalar_cmp l.all.items l.rest.items ≡ merge (cancels l.op) scalar_cmp l.fn.items.items l.fn.more.items)

abbrev pub decreases-operands : goal.decreases-operands
decreases-operands l = length l.rest.items
