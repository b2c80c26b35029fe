use Rattle.std.proofs.Common.{◌≡◌, drop, max}
use Rattle.ca_forms.specs.Lists.{longest, polynomial_of}
use Rattle.ca_forms.proofs.polynomial.longest_of.Given as goal

abbrev pub invariant-loop-product : goal.invariant-loop-product
invariant-loop-product l = max l.most (longest (polynomial_of (drop l.product-index l.products))) ≡ longest (polynomial_of l.products)
