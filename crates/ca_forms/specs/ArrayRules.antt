-- The rules of normal forms of arrays, and of the items of arrays.
use Rattle.std.specs.Prelude.{ℕ, get_or, ◌-◌, ◌^◌, Bool, true, false, [], ◌∷◌, ◌++◌}
use Rattle.std.specs.Ordering.{is_eq}
use Rattle.std.specs.declared.cmp.Ordering.{Ordering}
use Rattle.std.specs.declared.cmp.Ordering.TheVariants.{Less, Equal, Greater}
use Rattle.ca_sums.specs.Sums.{Sum, scale}
use Rattle.ca_sums.specs.Products.{product}
use Rattle.ca_forms.specs.Plain.{PlainPolynomial, PlainMonomial, PlainPointer, PlainScalar, own_item, no_products, product_and, no_object, pointer_part, number_form, truth_form, pointer_form}
use Rattle.ca_forms.specs.Lists.{products_of}
use Rattle.ca_forms.specs.Compare.{polynomial_cmp}
use Rattle.ca_forms.specs.Products.{times}
use Rattle.ca_forms.specs.Rules.{alone, gathered, chosen, negated, less_sum, same_numbers, chosen_pointer}
use Rattle.ca_forms.specs.Arrays.{PlainSpan, one, range, span_cmp, PlainRows, PlainArray, own_items, put_item, with_sums, array_choice, array_cmp}

-- with a row in front, unless nothing is added there
abbrev pub row_if : PlainSpan → PlainPolynomial → PlainRows → PlainRows
row_if i no_products rs = rs
row_if i (product_and m c f) rs = (i, product_and m c f) ∷ rs

-- the row at a place, and an empty one behind the last
abbrev pub row_at : PlainRows → ℕ → PlainSpan × PlainPolynomial
row_at rs p = get_or rs p (one no_products, no_products)

-- what a row adds, and more
abbrev pub joined_rows : PlainSpan × PlainPolynomial → PlainPolynomial → PlainPolynomial
joined_rows r f = gathered (products_of r.1 ++ products_of f)

abbrev pub put_row_at : Ordering → PlainSpan → PlainPolynomial → PlainSpan × PlainPolynomial → PlainRows → PlainRows → PlainRows
put_row_at Less i f r rs below = row_if i f (r ∷ rs)
put_row_at Equal i f r rs below = row_if i (joined_rows r f) rs
put_row_at Greater i f r rs below = r ∷ below

-- one sum more at an index, in the order of the indexes; a sum that is zero vanishes
abbrev pub put_row : PlainSpan → PlainPolynomial → PlainRows → PlainRows
put_row i f [] = row_if i f []
put_row i f (r ∷ rs) = put_row_at (span_cmp i r.0) i f r rs (put_row i f rs)

-- a range whose bounds are equal
abbrev pub is_empty : PlainSpan → Bool
is_empty (one i) = false
is_empty (range f t) = is_eq (polynomial_cmp f t)

abbrev pub put_unless : Bool → PlainSpan → PlainPolynomial → PlainRows → PlainRows
put_unless true i f rs = rs
put_unless false i f rs = put_row i f rs

-- one sum more, unless nothing lies in its range
abbrev pub put_sum : PlainSpan → PlainPolynomial → PlainRows → PlainRows
put_sum i f rs = put_unless (is_empty i) i f rs

-- an array but for a last gathered sum, and that sum
abbrev pub rest_of : PlainArray → PlainArray
rest_of (with_sums a rs) = a
rest_of a = a

abbrev pub last_rows : PlainArray → PlainRows
last_rows (with_sums a rs) = rs
last_rows a = []

-- a gathered sum that is empty vanishes
abbrev pub summed : PlainArray → PlainRows → PlainArray
summed a [] = a
summed a (r ∷ rs) = with_sums a (r ∷ rs)

-- One sum more joins a last gathered sum.
abbrev pub added_at : PlainArray → PlainSpan → PlainPolynomial → PlainArray
added_at a i f = summed (rest_of a) (put_sum i f (last_rows a))

-- k times the product of two polynomials
abbrev pub weighed : ℕ → PlainPolynomial → PlainPolynomial → PlainPolynomial
weighed k c f = gathered (scale k (product times (products_of c) (products_of f)))

-- each of the first rows, k times c times what it adds, put to the second ones
abbrev pub put_weighed : ℕ → PlainPolynomial → PlainRows → PlainRows → PlainRows
put_weighed k c [] rs = rs
put_weighed k c (x ∷ xs) rs = put_weighed k c xs (put_sum x.0 (weighed k c x.1) rs)

-- whether two arrays agree but for a last gathered sum
abbrev pub agree : PlainArray → PlainArray → Bool
agree a b = is_eq (array_cmp (rest_of a) (rest_of b))

-- at each index b + c (a - b)
abbrev pub chosen_rows : PlainPolynomial → PlainRows → PlainRows → PlainRows
chosen_rows c rs ss = put_weighed (2 ^ 64 - 1) c ss (put_weighed 1 c rs ss)

abbrev pub chosen_if : Bool → PlainPolynomial → PlainArray → PlainArray → PlainArray
chosen_if true c a b = summed (rest_of b) (chosen_rows c (last_rows a) (last_rows b))
chosen_if false c a b = array_choice c a b

-- The choice is taken at each index where both agree but for a last gathered sum, and is kept else.
abbrev pub chosen_array : PlainPolynomial → PlainArray → PlainArray → PlainArray
chosen_array c a b = chosen_if (agree a b) c a b

-- whether two indexes are equal
abbrev pub same_index : PlainPolynomial → PlainPolynomial → Sum PlainMonomial
same_index i j = same_numbers (products_of i) (products_of j)

-- whether an index lies in a span
abbrev pub lies_in : PlainSpan → PlainPolynomial → Sum PlainMonomial
lies_in (one i) j = same_index i j
lies_in (range f t) j = product times (negated (less_sum j f)) (less_sum j t)

-- what rows add to the item at an index
abbrev pub rows_at : PlainPolynomial → PlainRows → Sum PlainMonomial
rows_at j [] = []
rows_at j (r ∷ rs) = product times (lies_in r.0 j) (products_of r.1) ++ rows_at j rs

abbrev pub products_in : PlainScalar → Sum PlainMonomial
products_in (number_form f) = products_of f
products_in (truth_form f) = products_of f
products_in (pointer_form p) = []

abbrev pub pointer_in : PlainScalar → PlainPointer
pointer_in (number_form f) = no_object
pointer_in (truth_form f) = no_object
pointer_in (pointer_form p) = p

-- the item at an index, of an array of numbers or truth values
abbrev pub selected : PlainArray → PlainPolynomial → Sum PlainMonomial
selected (own_items s g n) j = alone (own_item s g n j)
selected (put_item a i x) j = chosen (same_index i j) (products_in x) (selected a j)
selected (with_sums a rs) j = selected a j ++ rows_at j rs
selected (array_choice c a b) j = chosen (products_of c) (selected a j) (selected b j)

-- and of an array of pointers
abbrev pub selected_pointer : PlainArray → PlainPolynomial → PlainPointer
selected_pointer (own_items s g n) j = pointer_part (own_item s g n j)
selected_pointer (put_item a i x) j = chosen_pointer (gathered (same_index i j)) (pointer_in x) (selected_pointer a j)
selected_pointer (with_sums a rs) j = selected_pointer a j
selected_pointer (array_choice c a b) j = chosen_pointer c (selected_pointer a j) (selected_pointer b j)
