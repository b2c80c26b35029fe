use Rattle.std.proofs.Common.{◌≡◌, take}
use Rattle.ca_forms.proofs.+copy.Given as goal

abbrev pub invariant-copies::copy_powers-loop-power : goal.invariant-copies::copy_powers-loop-power
invariant-copies::copy_powers-loop-power l = l.copies.items ≡ take l.power-index l.powers

abbrev pub invariant-copies::copy_products-loop-product : goal.invariant-copies::copy_products-loop-product
invariant-copies::copy_products-loop-product l = l.copies.items ≡ take l.product-index l.products

abbrev pub invariant-copies::copy_scalars-loop-scalar : goal.invariant-copies::copy_scalars-loop-scalar
invariant-copies::copy_scalars-loop-scalar l = l.copies.items ≡ take l.scalar-index l.scalars
