-- The order of parts, powers, monomials, products, polynomials, pointers and arguments.
use Rattle.std.specs.Prelude.{ℕ}
use Rattle.std.proofs.Common.{Ordering}
use Rattle.std.specs.Cmp.{IsTotalOrder}
use Rattle.std.specs.Ordering.{on}
use Rattle.std.proofs.lemmas.Cmp.{on_total}
use base.Stored.{Gv, gnum, gcons}
use Rattle.ca_forms.specs.Plain.{PlainPart, PlainPolynomial, PlainMonomial, PlainPointer, PlainScalar, PlainScalars, name_code, part_code, polynomial_code, monomial_code, pointer_code, scalar_code, scalars_code}
use Rattle.ca_forms.specs.declared.sort.Sort.{Sort}
use Rattle.ca_forms.specs.Trees.{tree_cmp, tree_cmp_total}

abbrev pub power_code : PlainPart × ℕ → Gv
power_code p = gcons (part_code p.0) (gnum p.1)

abbrev pub product_code : PlainMonomial × ℕ → Gv
product_code p = gcons (monomial_code p.0) (gnum p.1)

abbrev pub part_cmp : PlainPart → PlainPart → Ordering
part_cmp = on part_code tree_cmp

abbrev pub power_cmp : PlainPart × ℕ → PlainPart × ℕ → Ordering
power_cmp = on power_code tree_cmp

abbrev pub monomial_cmp : PlainMonomial → PlainMonomial → Ordering
monomial_cmp = on monomial_code tree_cmp

abbrev pub product_cmp : PlainMonomial × ℕ → PlainMonomial × ℕ → Ordering
product_cmp = on product_code tree_cmp

abbrev pub polynomial_cmp : PlainPolynomial → PlainPolynomial → Ordering
polynomial_cmp = on polynomial_code tree_cmp

abbrev pub pointer_cmp : PlainPointer → PlainPointer → Ordering
pointer_cmp = on pointer_code tree_cmp

abbrev pub scalar_cmp : PlainScalar → PlainScalar → Ordering
scalar_cmp = on scalar_code tree_cmp

abbrev pub scalars_cmp : PlainScalars → PlainScalars → Ordering
scalars_cmp = on scalars_code tree_cmp

-- a sort and two numbers
abbrev pub name_cmp : Sort → ℕ → ℕ → Sort → ℕ → ℕ → Ordering
name_cmp s m n t k l = tree_cmp (name_code s m n) (name_code t k l)

pub monomial_total : IsTotalOrder monomial_cmp
monomial_total = on_total monomial_code tree_cmp_total

pub polynomial_total : IsTotalOrder polynomial_cmp
polynomial_total = on_total polynomial_code tree_cmp_total

pub scalar_total : IsTotalOrder scalar_cmp
scalar_total = on_total scalar_code tree_cmp_total
