use Rattle.std.proofs.Common.{◌≡◌, drop}
use Rattle.std.specs.Cmp.Lexicographic.{slice_cmp}
use Rattle.ca_forms.specs.Compare.{power_cmp, product_cmp, scalar_cmp}
use Rattle.ca_forms.proofs.+compare.Given as goal

abbrev pub invariant-order::compare_powers-loop-i : goal.invariant-order::compare_powers-loop-i
invariant-order::compare_powers-loop-i l = slice_cmp power_cmp (drop l.i l.a) (drop l.i l.b) ≡ slice_cmp power_cmp l.a l.b

abbrev pub invariant-order::compare_products-loop-i : goal.invariant-order::compare_products-loop-i
invariant-order::compare_products-loop-i l = slice_cmp product_cmp (drop l.i l.a) (drop l.i l.b) ≡ slice_cmp product_cmp l.a l.b

abbrev pub invariant-order::compare_scalars-loop-i : goal.invariant-order::compare_scalars-loop-i
invariant-order::compare_scalars-loop-i l = slice_cmp scalar_cmp (drop l.i l.a) (drop l.i l.b) ≡ slice_cmp scalar_cmp l.a l.b
