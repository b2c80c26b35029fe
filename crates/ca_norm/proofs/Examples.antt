-- Weights and forms of short terms, and a valuation.
use Rattle.std.proofs.Common.{◌≡◌, ℕ, [], ◌∷◌, pos, negsuc, true, false, refl}
use Rattle.std.specs.Int.{int_wrap}
use Rattle.ca_model.specs.declared.value.Value.TheVariants as datum
use Rattle.ca_forms.specs.declared.sort.Sort.TheVariants.{Long, Bool as Truth, Pointer, LongArray}
use Rattle.ca_forms.specs.declared.form.Normal.TheVariants as normal
use Rattle.ca_folds.specs.declared.operator.FoldOp.TheVariants.{Max, Min, BitAnd, BitOr, BitXor}
use Rattle.ca_forms.specs.Plain.{PlainPolynomial, PlainPart, PlainScalars, variable, fold_of, no_powers, power_and, no_products, product_and, number_form, truth_form, pointer_form, pointer_part, no_scalars, scalar_and}
use Rattle.ca_forms.specs.Arrays.{one, own_items, put_item, with_sums, array_choice}
use Rattle.ca_norm.specs.Terms.{PlainTerm, number, truth, null, atom, add, sub, mul, divide, remainder, less, same, and, choose, select, put, add_at, fold, sweep}
use Rattle.ca_norm.specs.Weights.{spread, weight_of}
use Rattle.ca_norm.specs.Forms.{norm}
use Rattle.ca_norm.specs.Meanings.{Valuation, mean, item_mean}
use Rattle.ca_norm.specs.Valuations.{valuation_of}

-- the first operation's first parameter, what the second field holds at the start, and a condition
p : PlainTerm
p = atom Long 1 0

s : PlainTerm
s = atom Long 3 1

c : PlainTerm
c = atom Truth 2 0

four_leaves : weight_of (add (add (add s p) p) p) ≡ 64
unfolding s p
four_leaves = refl

-- an item of an array with another item put: the item, and twice the array's own
item_put : spread (select (put (atom LongArray 3 0) p s) p) ≡ 4
unfolding s p
item_put = refl

-- the same with one thing added to a range: the item, and one product
item_swept : spread (select (sweep (atom LongArray 3 0) p s s) p) ≡ 3
unfolding s p
item_swept = refl

truths_compared : spread (same c c) ≡ 4
unfolding c
truths_compared = refl

one_cancelled : norm (sub (add s p) p) ≡ normal.Scalar (number_form (product_and (power_and (variable Long 3 1) 1 no_powers) 1 no_products))
unfolding s p
one_cancelled = refl

least_number_twice : norm (add (number (negsuc 9223372036854775807)) (number (negsuc 9223372036854775807))) ≡ normal.Scalar (number_form no_products)
least_number_twice = refl

squared : norm (mul s s) ≡ normal.Scalar (number_form (product_and (power_and (variable Long 3 1) 2 no_powers) 1 no_products))
unfolding s
squared = refl

truth_once : norm (and c c) ≡ normal.Scalar (truth_form (product_and (power_and (variable Truth 2 0) 1 no_powers) 1 no_products))
unfolding c
truth_once = refl

wrapped_away : norm (mul (number (pos 2)) (mul (number (pos 4611686018427387904)) (mul (number (pos 2)) s))) ≡ normal.Scalar (number_form no_products)
unfolding s
wrapped_away = refl

same_branches : norm (choose c p p) ≡ normal.Scalar (number_form (product_and (power_and (variable Long 1 0) 1 no_powers) 1 no_products))
unfolding c p
same_branches = refl

-- what the receiver's first field holds at the start, and the receiver
q : PlainTerm
q = atom Pointer 3 0

this : PlainTerm
this = atom Pointer 0 0

pointer : norm q ≡ normal.Scalar (pointer_form (pointer_part (variable Pointer 3 0)))
unfolding q
pointer = refl

receiver_is_no_null : norm (same this null) ≡ normal.Scalar (truth_form no_products)
unfolding this
receiver_is_no_null = refl

itself : norm (same q q) ≡ norm (truth true)
unfolding q
itself = refl

either_order : norm (same q null) ≡ norm (same null q)
unfolding q
either_order = refl

no_choice_left : norm (choose (truth false) q null) ≡ norm null
unfolding q
no_choice_left = refl

rounded_to_zero : norm (divide (number (negsuc 6)) (pos 2)) ≡ norm (number (negsuc 2))
rounded_to_zero = refl

sign_of_the_dividend : norm (remainder (number (negsuc 6)) (pos 2)) ≡ norm (number (negsuc 0))
sign_of_the_dividend = refl

least_number_divided : norm (divide (number (negsuc 9223372036854775807)) (negsuc 0)) ≡ norm (number (negsuc 9223372036854775807))
least_number_divided = refl

not_less_than_itself : norm (less s (add s (number (pos 0)))) ≡ norm (truth false)
unfolding s
not_less_than_itself = refl

-- what the third field, an array of numbers, holds at the start, and the second operation's second parameter
a : PlainTerm
a = atom LongArray 3 2

q1 : PlainTerm
q1 = atom Long 2 1

-- the polynomial of one atom
only : ℕ → ℕ → PlainPolynomial
only g n = product_and (power_and (variable Long g n) 1 no_powers) 1 no_products

gone_again : norm (add_at (add_at a p (number (pos 1))) p (number (negsuc 0))) ≡ norm a
unfolding a p
gone_again = refl

sums_commute : norm (add_at (add_at a p s) q1 s) ≡ norm (add_at (add_at a q1 s) p s)
unfolding a p s q1
sums_commute = refl

ranges_commute : norm (sweep (sweep a p s q1) q1 p s) ≡ norm (sweep (sweep a q1 p s) p s q1)
unfolding a p s q1
ranges_commute = refl

range_and_item : norm (add_at (sweep a p s q1) q1 s) ≡ norm (sweep (add_at a q1 s) p s q1)
unfolding a p s q1
range_and_item = refl

range_of_equal_bounds : norm (sweep a (add p q1) (add q1 p) s) ≡ norm a
unfolding a p s q1
range_of_equal_bounds = refl

range_gone_again : norm (sweep (sweep a p q1 (number (pos 1))) p q1 (number (negsuc 0))) ≡ norm a
unfolding a p q1
range_gone_again = refl

-- the last number of a range, the first one behind it, and a range whose bounds are the other way round
last_of_a_range : norm (select (sweep a (number (pos 2)) (number (pos 5)) s) (number (pos 4))) ≡ norm (add (select a (number (pos 4))) s)
unfolding a s
last_of_a_range = refl

behind_a_range : norm (select (sweep a (number (pos 2)) (number (pos 5)) s) (number (pos 5))) ≡ norm (select a (number (pos 5)))
unfolding a s
behind_a_range = refl

range_of_nothing : norm (select (sweep a (number (pos 5)) (number (pos 2)) s) (number (pos 3))) ≡ norm (select a (number (pos 3)))
unfolding a s
range_of_nothing = refl

put_behind_a_sum : norm (put (add_at a p s) q1 s) ≡ normal.Array (put_item (with_sums (own_items Long 3 2) ((one (only 1 0), only 3 1) ∷ [])) (only 2 1) (number_form (only 3 1)))
unfolding a p s q1 only
put_behind_a_sum = refl

sum_behind_a_put : norm (add_at (put a q1 s) p s) ≡ normal.Array (with_sums (put_item (own_items Long 3 2) (only 2 1) (number_form (only 3 1))) ((one (only 1 0), only 3 1) ∷ []))
unfolding a p s q1 only
sum_behind_a_put = refl

past_another_constant : norm (select (put a (number (pos 1)) s) (number (pos 2))) ≡ norm (select a (number (pos 2)))
unfolding a s
past_another_constant = refl

what_was_put : norm (select (put a p s) p) ≡ norm s
unfolding a p s
what_was_put = refl

choice_at_an_item : norm (choose c (add_at a p s) a) ≡ normal.Array (with_sums (own_items Long 3 2) ((one (only 1 0), product_and (power_and (variable Long 3 1) 1 (power_and (variable Truth 2 0) 1 no_powers)) 1 no_products) ∷ []))
unfolding a c p s only
choice_at_an_item = refl

choice_is_kept : norm (choose c (put a p s) a) ≡ normal.Array (array_choice (product_and (power_and (variable Truth 2 0) 1 no_powers) 1 no_products) (put_item (own_items Long 3 2) (only 1 0) (number_form (only 3 1))) (own_items Long 3 2))
unfolding a c p s only
choice_is_kept = refl

-- operators whose operands may stand in any order: a part alone, and two operands
part_alone : PlainPart → PlainPolynomial
part_alone r = product_and (power_and r 1 no_powers) 1 no_products

two : PlainPolynomial → PlainPolynomial → PlainScalars
two f g = scalar_and (number_form f) (scalar_and (number_form g) no_scalars)

other_operator_inside : norm (fold Max (fold Min s p) q1) ≡ normal.Scalar (number_form (part_alone (fold_of Max 9223372036854775808 (two (only 2 1) (part_alone (fold_of Min 9223372036854775807 (two (only 1 0) (only 3 1))))))))
unfolding s p q1 only part_alone two
other_operator_inside = refl

numbers_joined : norm (fold BitAnd (fold BitAnd s (number (pos 6))) (fold BitAnd (number (pos 3)) p)) ≡ normal.Scalar (number_form (part_alone (fold_of BitAnd 2 (two (only 1 0) (only 3 1)))))
unfolding s p only part_alone two
numbers_joined = refl

once_only : norm (fold BitOr (fold BitOr s p) s) ≡ norm (fold BitOr p s)
unfolding s p
once_only = refl

pair_cancelled : norm (fold BitXor (fold BitXor s p) s) ≡ norm p
unfolding s p
pair_cancelled = refl

neutral_dropped : norm (fold BitAnd s (number (negsuc 0))) ≡ norm s
unfolding s
neutral_dropped = refl

absorbed : norm (fold BitAnd (fold BitAnd s (number (pos 6))) (number (pos 1))) ≡ norm (number (pos 0))
unfolding s
absorbed = refl

-- each atom stands for its number in its group
numbered : Valuation
numbered = valuation_of (λ group n. datum.Long (pos n))

sum_of_numbers : mean numbered (sub (add s (number (pos 7))) p) ≡ datum.Long (pos 8)
unfolding s p numbered int_wrap
sum_of_numbers = refl

greatest_of_numbers : mean numbered (fold Max (sub p (number (pos 7))) s) ≡ datum.Long (pos 1)
unfolding s p numbered int_wrap
greatest_of_numbers = refl

sum_is_no_pointer : mean numbered (add s null) ≡ datum.Null
unfolding s numbered int_wrap
sum_is_no_pointer = refl

-- an addend stands at its index alone
other_item : item_mean numbered (add_at (put a (number (pos 0)) s) (number (pos 1)) s) (pos 0) ≡ datum.Long (pos 1)
unfolding a s numbered int_wrap
other_item = refl

-- a range has its beginning and not its end
first_of_a_range : item_mean numbered (sweep (put a (number (pos 2)) s) (number (pos 2)) (number (pos 4)) s) (pos 2) ≡ datum.Long (pos 2)
unfolding a s numbered int_wrap
first_of_a_range = refl

end_of_a_range : item_mean numbered (sweep (put a (number (pos 4)) s) (number (pos 2)) (number (pos 4)) s) (pos 4) ≡ datum.Long (pos 1)
unfolding a s numbered int_wrap
end_of_a_range = refl
