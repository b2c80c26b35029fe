-- What the rules of normal forms come to under a valuation.
use Rattle.std.proofs.Common.{◌≡◌, ℕ, ◌+◌, ◌-◌, ◌*◌, ◌%◌, ◌^◌, ◌<◌, Bool, true, false, Option, Some, None, [], ◌∷◌, ◌++◌, Ordering, Less, Equal, Greater, refl, sym, ap, ap₂, ◌∙◌, arith, FitsSigned, w64, of_z, to_z}
use Rattle.std.specs.Prelude.{nat_eq, int_lt, ℤ}
use Rattle.std.proofs.lemmas.Bool.Decides.{nat_tests}
use Rattle.std.proofs.lemmas.Int.{to_z-of_z}
use Rattle.std.proofs.Math.Nat.{pow-suc, pow-zero, one-mul}
use Rattle.ca_sums.specs.Sums.{Sum, total, Alike, collect}
use Rattle.ca_sums.specs.Products.{product}
use Rattle.ca_sums.proofs.Algebra.{alike_refl, alike_eq, alike_trans, alike_add, alike_mul, alike_mod, total_append, total_scale}
use Rattle.ca_sums.proofs.Collect.{total_collect}
use Rattle.ca_sums.proofs.Products.{product_means}
use Rattle.ca_forms.specs.Plain.{PlainPart, PlainPolynomial, PlainMonomial, is_less, is_zero, quotient, modulus, no_products, product_and, no_powers, power_and}
use Rattle.ca_forms.specs.Lists.{polynomial_of}
use Rattle.ca_forms.specs.Compare.{monomial_cmp, polynomial_cmp}
use Rattle.ca_forms.specs.Products.{is_truth, times}
use Rattle.ca_forms.specs.Rules.{alone, constancy, is_below, truth_sum, unless_tied, less_kinds, less_sum, smaller_at, smaller, opposite, zero_kind, zero_sum, minus, gathered, constant, divided, left_over, quotient_kind, quotient_sum, modulus_kind, modulus_sum}
use Rattle.ca_forms.proofs.Exact.{polynomial_same, monomials_exact}
use Rattle.ca_norm.specs.Meanings.{Valuation, bit, power, part_value, polynomial_value, monomial_value}
use Rattle.ca_norm.proofs.Monomials.{times_value}

last : (x : ℕ) → x ≡ 1 * (x * 1) + 0
last x = omega arith

one_power : (x : ℕ) → x ^ 0 * x ≡ x
one_power x = rw (pow-zero x) (one-mul x)

first_power : (x : ℕ) → x ≡ x ^ 1
first_power x = sym (rw (pow-suc x 0) (one_power x))

alone_is : (b : Bool) (x : ℕ) → x ≡ 1 * (power b x 1 * 1) + 0
alone_is true x = last x
alone_is false x = last x ∙ ap (λ y. 1 * (y * 1) + 0) (first_power x)

pub not_below_itself : (z : ℤ) → int_lt z z ≡ false
not_below_itself z = grind arith

pub equal_words : (a b : ℕ) → a < 2 ^ 64 → b < 2 ^ 64 → nat_eq a b ≡ nat_eq ((a + (2 ^ 64 - 1) * b) % (2 ^ 64)) 0
equal_words a b h k = grind (arith, nat_tests)

zero_minus : (d : ℕ) → nat_eq (d % (2 ^ 64)) 0 ≡ nat_eq (((2 ^ 64 - 1) * d) % (2 ^ 64)) 0
zero_minus d = grind (arith, nat_tests)

no_more : 0 ≡ (2 ^ 64 - 1) * 0
no_more = refl

regrouped : (k c m p : ℕ) → (c * k) * m + k * p ≡ k * (c * m + p)
regrouped k c m p = grind arith

times_one : (c : ℕ) → c * 1 + 0 ≡ c
times_one c = omega arith

module _ (v : Valuation) where
  pub polynomial_sum : (ps : Sum PlainMonomial) → polynomial_value v (polynomial_of ps) ≡ total (monomial_value v) ps
  polynomial_sum [] = refl
  polynomial_sum (p ∷ ps) = ap (λ k. p.1 * monomial_value v p.0 + k) (polynomial_sum ps)

  pub gathered_value : (ps : Sum PlainMonomial) → Alike (polynomial_value v (gathered ps)) (total (monomial_value v) ps)
  gathered_value ps = alike_trans (alike_eq (polynomial_sum (collect monomial_cmp ps))) (total_collect monomial_cmp monomials_exact (monomial_value v) ps)

  pub alone_value : (p : PlainPart) → total (monomial_value v) (alone p) ≡ part_value v p
  alone_value p = sym (alone_is (is_truth p) (part_value v p))

  pub truth_value : (b : Bool) → total (monomial_value v) (truth_sum b) ≡ bit b
  truth_value true = refl
  truth_value false = refl

  -- the value of a polynomial that is a number
  data HasValue (f : PlainPolynomial) : Option ℕ → Type 0 where
    that : (n : ℕ) → polynomial_value v f ≡ n → HasValue f (Some n)
    any : HasValue f None

  constancy_is : (f : PlainPolynomial) → HasValue f (constancy f)
  constancy_is no_products = that 0 refl
  constancy_is (product_and no_powers c no_products) = that c (times_one c)
  constancy_is (product_and no_powers c (product_and m d f)) = any
  constancy_is (product_and (power_and p e m) c f) = any

  value_at : (f : PlainPolynomial) (k : Option ℕ) (n : ℕ) → HasValue f k → k ≡ Some n → polynomial_value v f ≡ n
  value_at f (Some m) n (that _ e) h = let same : m ≡ n = cc in e ∙ same
  value_at f None n k h = cc

  pub constancy_value : (f : PlainPolynomial) (n : ℕ) → constancy f ≡ Some n → polynomial_value v f ≡ n
  constancy_value f n h = value_at f (constancy f) n (constancy_is f) h

  tied_value : (o : Ordering) (f g : PlainPolynomial) → polynomial_cmp f g ≡ o → total (monomial_value v) (unless_tied o (alone (is_less f g))) ≡ bit (is_below (polynomial_value v f) (polynomial_value v g))
  tied_value Less f g e = alone_value (is_less f g)
  tied_value Equal f g e = ap bit (sym (not_below_itself (to_z w64 (polynomial_value v g % (2 ^ 64))))) ∙ ap (λ h. bit (is_below (polynomial_value v h) (polynomial_value v g))) (sym (polynomial_same f g e))
  tied_value Greater f g e = alone_value (is_less f g)

  less_at : (j k : Option ℕ) (f g : PlainPolynomial) → HasValue f j → HasValue g k → total (monomial_value v) (less_kinds j k f g) ≡ bit (is_below (polynomial_value v f) (polynomial_value v g))
  less_at (Some m) (Some n) f g (that _ e) (that _ h) = truth_value (is_below m n) ∙ ap₂ (λ a b. bit (is_below a b)) (sym e) (sym h)
  less_at (Some m) None f g h k = tied_value (polynomial_cmp f g) f g refl
  less_at None k f g h i = tied_value (polynomial_cmp f g) f g refl

  pub less_value : (f g : PlainPolynomial) → total (monomial_value v) (less_sum f g) ≡ bit (is_below (polynomial_value v f) (polynomial_value v g))
  less_value f g = less_at (constancy f) (constancy g) f g (constancy_is f) (constancy_is g)

  smaller_zero : (o : Ordering) (f g : PlainPolynomial) → nat_eq (polynomial_value v f % (2 ^ 64)) 0 ≡ nat_eq (polynomial_value v g % (2 ^ 64)) 0 → nat_eq (polynomial_value v (smaller_at o f g) % (2 ^ 64)) 0 ≡ nat_eq (polynomial_value v f % (2 ^ 64)) 0
  smaller_zero Less f g e = refl
  smaller_zero Equal f g e = refl
  smaller_zero Greater f g e = sym e

  opposite_value : (f : PlainPolynomial) → Alike (polynomial_value v (opposite f)) ((2 ^ 64 - 1) * polynomial_value v f)
  opposite_value no_products = alike_eq no_more
  opposite_value (product_and m c f) =
      alike_trans (alike_add (alike_mul (alike_mod (c * (2 ^ 64 - 1))) (alike_refl (monomial_value v m))) (opposite_value f)) (alike_eq (regrouped (2 ^ 64 - 1) c (monomial_value v m) (polynomial_value v f)))

  opposite_zero : (f : PlainPolynomial) → nat_eq (polynomial_value v f % (2 ^ 64)) 0 ≡ nat_eq (polynomial_value v (opposite f) % (2 ^ 64)) 0
  opposite_zero f = zero_minus (polynomial_value v f) ∙ ap (λ z. nat_eq z 0) (sym (opposite_value f).alike)

  zero_at : (k : Option ℕ) (f : PlainPolynomial) → HasValue f k → total (monomial_value v) (zero_kind k f) ≡ bit (nat_eq (polynomial_value v f % (2 ^ 64)) 0)
  zero_at (Some n) f (that _ e) = truth_value (nat_eq (n % (2 ^ 64)) 0) ∙ ap (λ z. bit (nat_eq (z % (2 ^ 64)) 0)) (sym e)
  zero_at None f k = alone_value (is_zero (smaller f (opposite f))) ∙ ap bit (smaller_zero (polynomial_cmp f (opposite f)) f (opposite f) (opposite_zero f))

  pub zero_value : (f : PlainPolynomial) → total (monomial_value v) (zero_sum f) ≡ bit (nat_eq (polynomial_value v f % (2 ^ 64)) 0)
  zero_value f = zero_at (constancy f) f (constancy_is f)

  word_value : (k : ℕ) → total (monomial_value v) (constant k) ≡ k
  word_value k = times_one k

  quotient_at : (k : Option ℕ) (f : PlainPolynomial) (n : ℤ) → FitsSigned w64 n → HasValue f k → total (monomial_value v) (quotient_kind k f n) ≡ divided (polynomial_value v f) n
  quotient_at (Some m) f n h (that _ e) = word_value (divided m n) ∙ ap (λ z. divided z n) (sym e)
  quotient_at None f n h k = alone_value (quotient f (of_z w64 n)) ∙ ap (divided (polynomial_value v f)) (to_z-of_z w64 n h)

  pub quotient_value : (f : PlainPolynomial) (n : ℤ) → FitsSigned w64 n → total (monomial_value v) (quotient_sum f n) ≡ divided (polynomial_value v f) n
  quotient_value f n h = quotient_at (constancy f) f n h (constancy_is f)

  modulus_at : (k : Option ℕ) (f : PlainPolynomial) (n : ℤ) → FitsSigned w64 n → HasValue f k → total (monomial_value v) (modulus_kind k f n) ≡ left_over (polynomial_value v f) n
  modulus_at (Some m) f n h (that _ e) = word_value (left_over m n) ∙ ap (λ z. left_over z n) (sym e)
  modulus_at None f n h k = alone_value (modulus f (of_z w64 n)) ∙ ap (left_over (polynomial_value v f)) (to_z-of_z w64 n h)

  pub modulus_value : (f : PlainPolynomial) (n : ℤ) → FitsSigned w64 n → total (monomial_value v) (modulus_sum f n) ≡ left_over (polynomial_value v f) n
  modulus_value f n h = modulus_at (constancy f) f n h (constancy_is f)

  pub product_value : (ps qs : Sum PlainMonomial) → Alike (total (monomial_value v) (product times ps qs)) (total (monomial_value v) ps * total (monomial_value v) qs)
  product_value ps qs = product_means times (monomial_value v) (λ m n. alike_eq (times_value v m n)) ps qs

  pub minus_value : (ps qs : Sum PlainMonomial) → total (monomial_value v) (ps ++ minus qs) ≡ total (monomial_value v) ps + (2 ^ 64 - 1) * total (monomial_value v) qs
  minus_value ps qs = total_append (monomial_value v) ps (minus qs) ∙ ap (λ z. total (monomial_value v) ps + z) (total_scale (monomial_value v) (2 ^ 64 - 1) qs)
