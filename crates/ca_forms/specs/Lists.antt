-- Lists of products as a polynomial, of powers as a monomial, of forms as arguments, and how deep each is.
use Rattle.std.specs.Prelude.{ℕ, ◌+◌, ◌≤◌, List, [], ◌∷◌, length, max}
use Rattle.std.proofs.Common.{arith}
use Rattle.std.specs.Coded.{Coded, coded×, coded_ℕ}
use denote.Param.Weighed.{most}
use Rattle.ca_forms.specs.Plain.{PlainPart, PlainPolynomial, PlainMonomial, PlainPointer, PlainScalar, PlainScalars, variable, is_less, is_zero, same_pointer, quotient, modulus, field_of, item_of, result_of, own_item, fold_of, no_products, product_and, no_powers, power_and, no_object, pointer_part, pointer_choice, number_form, truth_form, pointer_form, no_scalars, scalar_and, coded_part, coded_monomial}

abbrev pub coded_product : Coded (PlainMonomial × ℕ)
coded_product = coded× coded_monomial coded_ℕ

abbrev pub coded_power : Coded (PlainPart × ℕ)
coded_power = coded× coded_part coded_ℕ

abbrev pub monomial_of : List (PlainPart × ℕ) → PlainMonomial
monomial_of [] = no_powers
monomial_of (p ∷ ps) = power_and p.0 p.1 (monomial_of ps)

abbrev pub powers_of : PlainMonomial → List (PlainPart × ℕ)
powers_of no_powers = []
powers_of (power_and p e m) = (p, e) ∷ powers_of m

abbrev pub polynomial_of : List (PlainMonomial × ℕ) → PlainPolynomial
polynomial_of [] = no_products
polynomial_of (p ∷ ps) = product_and p.0 p.1 (polynomial_of ps)

abbrev pub products_of : PlainPolynomial → List (PlainMonomial × ℕ)
products_of no_products = []
products_of (product_and m c f) = (m, c) ∷ products_of f

-- how many powers the monomial has that has the most of them
abbrev pub longest : PlainPolynomial → ℕ
longest no_products = 0
longest (product_and m c f) = max (length (powers_of m)) (longest f)

abbrev pub scalars_of : List PlainScalar → PlainScalars
scalars_of [] = no_scalars
scalars_of (x ∷ xs) = scalar_and x (scalars_of xs)

abbrev mutual
  pub part_size : PlainPart → ℕ
  part_size (variable s g n) = 0
  part_size (is_less f g) = polynomial_size f + polynomial_size g + 1
  part_size (is_zero f) = polynomial_size f + 1
  part_size (same_pointer p q) = pointer_size p + pointer_size q + 1
  part_size (quotient f n) = polynomial_size f + 1
  part_size (modulus f n) = polynomial_size f + 1
  part_size (field_of s p c f) = pointer_size p + 1
  part_size (item_of s p c f i) = pointer_size p + polynomial_size i + 1
  part_size (result_of s m p xs) = pointer_size p + scalars_size xs + 1
  part_size (own_item s g n i) = polynomial_size i + 1
  part_size (fold_of o w xs) = scalars_size xs + 1

  pub polynomial_size : PlainPolynomial → ℕ
  polynomial_size no_products = 1
  polynomial_size (product_and m c f) = monomial_size m + 2 + polynomial_size f

  pub monomial_size : PlainMonomial → ℕ
  monomial_size no_powers = 1
  monomial_size (power_and p e m) = part_size p + 2 + monomial_size m

  pub pointer_size : PlainPointer → ℕ
  pointer_size no_object = 0
  pointer_size (pointer_part p) = part_size p + 1
  pointer_size (pointer_choice c p q) = polynomial_size c + pointer_size p + pointer_size q + 1

  pub scalar_size : PlainScalar → ℕ
  scalar_size (number_form f) = polynomial_size f + 1
  scalar_size (truth_form f) = polynomial_size f + 1
  scalar_size (pointer_form p) = pointer_size p + 1

  pub scalars_size : PlainScalars → ℕ
  scalars_size no_scalars = 1
  scalars_size (scalar_and x xs) = scalar_size x + 1 + scalars_size xs

abbrev pub product_size : PlainMonomial × ℕ → ℕ
product_size p = monomial_size p.0 + 1

abbrev pub power_size : PlainPart × ℕ → ℕ
power_size p = part_size p.0 + 1

pub most_powers : (ps : List (PlainPart × ℕ)) → most (λ p. power_size p + 1) ps ≤ monomial_size (monomial_of ps)
most_powers [] = omega arith
most_powers (p ∷ ps) = omega (arith, most_powers ps)

pub most_products : (ps : List (PlainMonomial × ℕ)) → most (λ p. product_size p + 1) ps ≤ polynomial_size (polynomial_of ps)
most_products [] = omega arith
most_products (p ∷ ps) = omega (arith, most_products ps)

pub most_scalars : (xs : List PlainScalar) → most (λ x. scalar_size x + 1) xs ≤ scalars_size (scalars_of xs)
most_scalars [] = omega arith
most_scalars (x ∷ xs) = omega (arith, most_scalars xs)
