-- A comparison under an order, as a sum of products: from the forms of its sides.
use Rattle.std.specs.Prelude.{ℕ, Bool, nat_lt, nat_eq, Option, Some}
use Rattle.ca_forms.specs.Plain.{PlainPolynomial, PlainMonomial}
use Rattle.ca_forms.specs.Lists.{products_of}
use Rattle.ca_forms.specs.Rules.{truth_sum, negated, less_sum, same_numbers}
use Rattle.ca_sums.specs.Sums.{Sum}
use Rattle.ca_order.specs.Points.{Ranked}
use Rattle.ca_order.specs.Under.{rank_of_form, not_more}

-- what two ranks tell, where there are two
abbrev pub told_by : Option ℕ → Option ℕ → (ℕ → ℕ → Bool) → Sum PlainMonomial → Sum PlainMonomial
told_by (Some m) (Some n) test ps = truth_sum (test m n)
told_by j k test ps = ps

abbrev pub less_known : Ranked → PlainPolynomial → PlainPolynomial → Sum PlainMonomial
less_known r f g = told_by (rank_of_form r f) (rank_of_form r g) nat_lt (less_sum f g)

abbrev pub less_equal_known : Ranked → PlainPolynomial → PlainPolynomial → Sum PlainMonomial
less_equal_known r f g = told_by (rank_of_form r f) (rank_of_form r g) not_more (negated (less_sum g f))

abbrev pub same_known : Ranked → PlainPolynomial → PlainPolynomial → Sum PlainMonomial
same_known r f g = told_by (rank_of_form r f) (rank_of_form r g) nat_eq (same_numbers (products_of f) (products_of g))
