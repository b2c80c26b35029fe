-- The forms of operators whose operands may stand in any order.
use Rattle.std.specs.Prelude.{ℕ, cond, nat_eq, List, [], ◌∷◌, Option, Some, None}
use Rattle.ca_sums.specs.Sums.{put_if}
use Rattle.ca_folds.specs.declared.operator.FoldOp.{FoldOp}
use Rattle.ca_folds.specs.Operators.{fold_number}
use Rattle.ca_folds.specs.Operands.{gives}
use Rattle.ca_forms.specs.Plain.{PlainPart, PlainPolynomial, PlainMonomial, PlainScalar, PlainScalars, fold_of, no_powers, power_and, no_products, product_and, number_form, truth_form, pointer_form, no_scalars, scalar_and}
use Rattle.ca_forms.specs.Lists.{polynomial_of, scalars_of}
use Rattle.ca_forms.specs.Compare.{scalar_cmp}
use Rattle.ca_forms.specs.Rules.{alone, constancy}

abbrev pub items_of : PlainScalars → List PlainScalar
items_of no_scalars = []
items_of (scalar_and x xs) = x ∷ items_of xs

-- a word, and a part alone, as polynomials
abbrev pub word_form : ℕ → PlainPolynomial
word_form n = polynomial_of (put_if no_powers n [])

abbrev pub alone_form : PlainPart → PlainPolynomial
alone_form p = polynomial_of (alone p)

-- what the operator made a part of
abbrev pub part_made : FoldOp → PlainPart → Option (ℕ × List PlainScalar)
part_made op (fold_of o w xs) = cond (nat_eq (fold_number op) (fold_number o)) (Some (w, items_of xs)) None
part_made op p = None

-- what it made a product of that is such a part once, and a number that is such a product with the coefficient 1
abbrev pub monomial_made : FoldOp → PlainMonomial → Option (ℕ × List PlainScalar)
monomial_made op (power_and p e no_powers) = cond (nat_eq e 1) (part_made op p) None
monomial_made op m = None

abbrev pub made_in : FoldOp → PlainPolynomial → Option (ℕ × List PlainScalar)
made_in op (product_and m c no_products) = cond (nat_eq c 1) (monomial_made op m) None
made_in op f = None

-- operands as forms of numbers
abbrev pub scalar_word : PlainScalar → Option ℕ
scalar_word (number_form f) = constancy f
scalar_word (truth_form f) = None
scalar_word (pointer_form p) = None

abbrev pub scalar_made : FoldOp → PlainScalar → Option (ℕ × List PlainScalar)
scalar_made op (number_form f) = made_in op f
scalar_made op (truth_form f) = None
scalar_made op (pointer_form p) = None

abbrev pub word_scalar : ℕ → PlainScalar
word_scalar n = number_form (word_form n)

abbrev pub fold_scalar : FoldOp → ℕ → List PlainScalar → PlainScalar
fold_scalar op n xs = number_form (alone_form (fold_of op n (scalars_of xs)))

abbrev pub number_in : PlainScalar → PlainPolynomial
number_in (number_form f) = f
number_in (truth_form f) = f
number_in (pointer_form p) = no_products

-- what the operator makes of two forms of numbers
abbrev pub folded_scalars : FoldOp → PlainScalar → PlainScalar → PlainScalar
folded_scalars op = gives op scalar_cmp scalar_word (scalar_made op) word_scalar (fold_scalar op)

-- The form of the operator on two numbers: operands that it made of others are taken apart, words become one word,
-- and an operand that stands several times stands once, or goes with its like.
abbrev pub fold_form : FoldOp → PlainPolynomial → PlainPolynomial → PlainPolynomial
fold_form op f g = number_in (folded_scalars op (number_form f) (number_form g))
