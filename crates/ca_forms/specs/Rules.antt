-- The rules of normal forms of numbers, truth values and pointers. Truth is 1 and falsehood 0.
use Rattle.std.specs.Prelude.{ℕ, zero, suc, ◌*◌, ◌-◌, ◌%◌, ◌^◌, ℤ, pos, negsuc, int_lt, int_rem, Bool, true, false, cond, ◌&&◌, ◌||◌, nat_eq, [], ◌∷◌, ◌++◌, Option, Some, None}
use Rattle.std.specs.Int.{cast_signed, cast_unsigned, int_wrapping_div, w64}
use Rattle.std.specs.declared.cmp.Ordering.{Ordering}
use Rattle.std.specs.declared.cmp.Ordering.TheVariants.{Less, Equal, Greater}
use Rattle.ca_forms.specs.declared.sort.Sort.{Sort}
use Rattle.ca_forms.specs.declared.sort.Sort.TheVariants.{Pointer}
use Rattle.ca_sums.specs.Sums.{Sum, scale, collect}
use Rattle.ca_sums.specs.Products.{product}
use Rattle.ca_forms.specs.Plain.{PlainPart, PlainPolynomial, PlainMonomial, PlainPointer, variable, is_less, is_zero, same_pointer, quotient, modulus, no_powers, power_and, no_products, product_and, no_object, pointer_part, pointer_choice}
use Rattle.ca_forms.specs.Lists.{polynomial_of}
use Rattle.ca_forms.specs.Compare.{monomial_cmp, polynomial_cmp, pointer_cmp}
use Rattle.ca_forms.specs.Products.{times}

-- a part alone
abbrev pub alone : PlainPart → Sum PlainMonomial
alone p = (power_and p 1 no_powers, 1) ∷ []

-- a word
abbrev pub constant : ℕ → Sum PlainMonomial
constant n = (no_powers, n) ∷ []

abbrev pub truth_sum : Bool → Sum PlainMonomial
truth_sum true = constant 1
truth_sum false = []

abbrev pub minus : Sum PlainMonomial → Sum PlainMonomial
minus ps = scale (2 ^ 64 - 1) ps

abbrev pub gathered : Sum PlainMonomial → PlainPolynomial
gathered ps = polynomial_of (collect monomial_cmp ps)

-- b + c (a - b)
abbrev pub chosen : Sum PlainMonomial → Sum PlainMonomial → Sum PlainMonomial → Sum PlainMonomial
chosen c a b = b ++ product times c (a ++ minus b)

-- 1 - a
abbrev pub negated : Sum PlainMonomial → Sum PlainMonomial
negated a = truth_sum true ++ minus a

-- a + b - a b
abbrev pub either : Sum PlainMonomial → Sum PlainMonomial → Sum PlainMonomial
either a b = a ++ (b ++ minus (product times a b))

-- the empty product
abbrev pub is_one : PlainMonomial → Bool
is_one no_powers = true
is_one (power_and p e m) = false

-- the word that a polynomial is, if it is a number
abbrev pub constancy : PlainPolynomial → Option ℕ
constancy no_products = Some 0
constancy (product_and no_powers c no_products) = Some c
constancy f = None

abbrev pub unless_tied : Ordering → Sum PlainMonomial → Sum PlainMonomial
unless_tied Equal ps = []
unless_tied _ ps = ps

-- two words, read as signed numbers
abbrev pub is_below : ℕ → ℕ → Bool
is_below m n = int_lt (cast_signed w64 (m % (2 ^ 64))) (cast_signed w64 (n % (2 ^ 64)))

abbrev pub less_kinds : Option ℕ → Option ℕ → PlainPolynomial → PlainPolynomial → Sum PlainMonomial
less_kinds (Some m) (Some n) f g = truth_sum (is_below m n)
less_kinds _ _ f g = unless_tied (polynomial_cmp f g) (alone (is_less f g))

-- Two words are compared, equal polynomials are not less, and any others are a part.
abbrev pub less_sum : PlainPolynomial → PlainPolynomial → Sum PlainMonomial
less_sum f g = less_kinds (constancy f) (constancy g) f g

abbrev pub smaller_at : Ordering → PlainPolynomial → PlainPolynomial → PlainPolynomial
smaller_at Greater f g = g
smaller_at _ f g = f

abbrev pub smaller : PlainPolynomial → PlainPolynomial → PlainPolynomial
smaller f g = smaller_at (polynomial_cmp f g) f g

-- each coefficient negated, modulo 2^64
abbrev pub opposite : PlainPolynomial → PlainPolynomial
opposite no_products = no_products
opposite (product_and m c f) = product_and m ((c * (2 ^ 64 - 1)) % (2 ^ 64)) (opposite f)

abbrev pub zero_kind : Option ℕ → PlainPolynomial → Sum PlainMonomial
zero_kind (Some n) f = truth_sum (nat_eq (n % (2 ^ 64)) 0)
zero_kind None f = alone (is_zero (smaller f (opposite f)))

-- Whether a number is zero: told of a word, and else a part with the smaller of it and its negation.
abbrev pub zero_sum : PlainPolynomial → Sum PlainMonomial
zero_sum f = zero_kind (constancy f) f

-- whether two numbers are equal
abbrev pub same_numbers : Sum PlainMonomial → Sum PlainMonomial → Sum PlainMonomial
same_numbers a b = zero_sum (gathered (a ++ minus b))

-- whether two truth values are equal: 1 - a - b + 2 a b
abbrev pub same_truths : Sum PlainMonomial → Sum PlainMonomial → Sum PlainMonomial
same_truths a b = truth_sum true ++ (minus a ++ (minus b ++ scale 2 (product times a b)))

abbrev pub is_nought : ℤ → Bool
is_nought (pos zero) = true
is_nought (pos (suc n)) = false
is_nought (negsuc n) = false

-- A word, read as a signed number, divided by a number and rounded towards zero, and what that leaves, with the
-- sign of what is divided. For the divisor 0 both are 0.
abbrev pub divided : ℕ → ℤ → ℕ
divided m n = cond (is_nought n) 0 (cast_unsigned w64 (int_wrapping_div w64 (cast_signed w64 (m % (2 ^ 64))) n))

abbrev pub left_over : ℕ → ℤ → ℕ
left_over m n = cond (is_nought n) 0 (cast_unsigned w64 (int_rem (cast_signed w64 (m % (2 ^ 64))) n))

abbrev pub quotient_kind : Option ℕ → PlainPolynomial → ℤ → Sum PlainMonomial
quotient_kind (Some m) f n = constant (divided m n)
quotient_kind None f n = alone (quotient f (cast_unsigned w64 n))

-- A word is divided, and any other number is a part.
abbrev pub quotient_sum : PlainPolynomial → ℤ → Sum PlainMonomial
quotient_sum f n = quotient_kind (constancy f) f n

abbrev pub modulus_kind : Option ℕ → PlainPolynomial → ℤ → Sum PlainMonomial
modulus_kind (Some m) f n = constant (left_over m n)
modulus_kind None f n = alone (modulus f (cast_unsigned w64 n))

abbrev pub modulus_sum : PlainPolynomial → ℤ → Sum PlainMonomial
modulus_sum f n = modulus_kind (constancy f) f n

abbrev pub is_pointer_sort : Sort → Bool
is_pointer_sort Pointer = true
is_pointer_sort sort = false

-- the atom of the receiver
abbrev pub is_receiver_part : PlainPart → Bool
is_receiver_part (variable s g n) = is_pointer_sort s && (nat_eq g 0 && nat_eq n 0)
is_receiver_part p = false

abbrev pub is_receiver : PlainPointer → Bool
is_receiver (pointer_part p) = is_receiver_part p
is_receiver p = false

abbrev pub is_no_object : PlainPointer → Bool
is_no_object no_object = true
is_no_object p = false

-- one is null and the other the receiver, which isn't null
abbrev pub differ : PlainPointer → PlainPointer → Bool
differ p q = (is_no_object p && is_receiver q) || (is_receiver p && is_no_object q)

-- a truth value, unless it is known not to hold
abbrev pub unless_false : Bool → PlainPart → Sum PlainMonomial
unless_false true p = []
unless_false false p = alone p

abbrev pub same_pointers_at : Ordering → PlainPointer → PlainPointer → Sum PlainMonomial
same_pointers_at Less p q = unless_false (differ p q) (same_pointer p q)
same_pointers_at Equal p q = truth_sum true
same_pointers_at Greater p q = unless_false (differ p q) (same_pointer q p)

-- whether two pointers are equal
abbrev pub same_pointers : PlainPointer → PlainPointer → Sum PlainMonomial
same_pointers p q = same_pointers_at (pointer_cmp p q) p q

abbrev pub chosen_kind : Option ℕ → PlainPolynomial → PlainPointer → PlainPointer → PlainPointer
chosen_kind (Some n) c p q = cond (nat_eq (n % (2 ^ 64)) 0) q p
chosen_kind None c p q = pointer_choice c p q

abbrev pub chosen_pointer_at : Ordering → PlainPolynomial → PlainPointer → PlainPointer → PlainPointer
chosen_pointer_at Less c p q = chosen_kind (constancy c) c p q
chosen_pointer_at Equal c p q = p
chosen_pointer_at Greater c p q = chosen_kind (constancy c) c p q

-- The first where the condition is 1 or both are equal, the second where it is 0, and else a choice.
abbrev pub chosen_pointer : PlainPolynomial → PlainPointer → PlainPointer → PlainPointer
chosen_pointer c p q = chosen_pointer_at (pointer_cmp p q) c p q
