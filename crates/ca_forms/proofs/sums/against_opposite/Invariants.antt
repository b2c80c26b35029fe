use Rattle.std.proofs.Common.{◌≡◌, drop}
use Rattle.ca_forms.specs.Lists.{polynomial_of}
use Rattle.ca_forms.specs.Compare.{polynomial_cmp}
use Rattle.ca_forms.specs.Rules.{opposite}
use Rattle.ca_forms.proofs.sums.against_opposite.Given as goal

abbrev pub invariant-loop-product : goal.invariant-loop-product
invariant-loop-product l =
    polynomial_cmp (polynomial_of (drop l.product-index l.products)) (opposite (polynomial_of (drop l.product-index l.products))) ≡ polynomial_cmp (polynomial_of l.products) (opposite (polynomial_of l.products))
