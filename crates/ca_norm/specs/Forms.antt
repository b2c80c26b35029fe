-- The normal form of a term, and the formal polynomial that it shows.
use Rattle.std.specs.Prelude.{◌≡◌, ℕ, ◌%◌, ◌^◌, Bool, true, false, [], ◌++◌}
use Rattle.std.specs.Int.{cast_unsigned, w64}
use Rattle.std.specs.List.Sorted.{IsStrictlySortedBy}
use Rattle.std.specs.Map.{keys_of, lookup}
use Rattle.std.specs.BTreeMap.{is_at}
use Rattle.std.specs.Option.{unwrap_or}
use Rattle.ca_forms.specs.declared.sort.Sort.{Sort}
use Rattle.ca_forms.specs.declared.sort.Sort.TheVariants.{Long, Bool as Truth, Pointer}
use Rattle.ca_forms.specs.declared.form.Normal.{Normal}
use Rattle.ca_forms.specs.declared.form.Normal.TheVariants as normal
use Rattle.ca_forms.specs.Plain.{PlainPart, PlainMonomial, PlainPointer, PlainScalar, PlainScalars, variable, field_of, item_of, result_of, no_object, pointer_part, number_form, truth_form, pointer_form, no_scalars, scalar_and}
use Rattle.ca_forms.specs.Arrays.{PlainArray, one, range, own_items, put_item}
use Rattle.ca_forms.specs.Lists.{products_of}
use Rattle.ca_forms.specs.Compare.{monomial_cmp}
use Rattle.ca_forms.specs.Products.{times}
use Rattle.ca_forms.specs.Rules.{alone, constant, truth_sum, minus, negated, either, chosen, gathered, less_sum, same_numbers, same_truths, same_pointers, quotient_sum, modulus_sum, chosen_pointer}
use Rattle.ca_forms.specs.Folds.{fold_form}
use Rattle.ca_forms.specs.ArrayRules.{added_at, chosen_array, selected, selected_pointer}
use Rattle.ca_sums.specs.Sums.{Sum, total, is_tied, NoZero}
use Rattle.ca_sums.specs.Products.{product}
use Rattle.ca_norm.specs.Terms.{PlainTerm, PlainTerms, number, truth, atom, add, sub, neg, mul, divide, remainder, less, less_equal, same, not, and, or, choose, read, read_at, result, select, put, add_at, fold, sweep, no_terms, term_and, sort_of, item_sort}

-- `same` by the sort of its sides, from what these are as words and as pointers
abbrev pub same_sum : Sort → Sum PlainMonomial → Sum PlainMonomial → PlainPointer → PlainPointer → Sum PlainMonomial
same_sum Long a b p q = same_numbers a b
same_sum Truth a b p q = same_truths a b
same_sum Pointer a b p q = same_pointers p q
same_sum sort a b p q = []

-- the form of a value of the sort
abbrev pub scalar_at : Sort → Sum PlainMonomial → PlainPointer → PlainScalar
scalar_at Truth ps p = truth_form (gathered ps)
scalar_at Pointer ps p = pointer_form p
scalar_at sort ps p = number_form (gathered ps)

abbrev mutual
  -- A number or a truth value as a sum of products, in the order in which they are written. Any other term has none.
  pub expand : PlainTerm → Sum PlainMonomial
  expand (number n) = constant (cast_unsigned w64 n)
  expand (truth b) = truth_sum b
  expand (atom sort group n) = alone (variable sort group n)
  expand (add a b) = expand a ++ expand b
  expand (sub a b) = expand a ++ minus (expand b)
  expand (neg a) = minus (expand a)
  expand (mul a b) = product times (expand a) (expand b)
  expand (divide a n) = quotient_sum (gathered (expand a)) n
  expand (remainder a n) = modulus_sum (gathered (expand a)) n
  expand (less a b) = less_sum (gathered (expand a)) (gathered (expand b))
  expand (less_equal a b) = negated (less_sum (gathered (expand b)) (gathered (expand a)))
  expand (same a b) = same_sum (sort_of a) (expand a) (expand b) (pointer_of a) (pointer_of b)
  expand (not a) = negated (expand a)
  expand (and a b) = product times (expand a) (expand b)
  expand (or a b) = either (expand a) (expand b)
  expand (choose c a b) = chosen (expand c) (expand a) (expand b)
  expand (read sort p c f) = alone (field_of sort (pointer_of p) c f)
  expand (read_at sort p c f i) = alone (item_of sort (pointer_of p) c f (gathered (expand i)))
  expand (result sort m p ts) = alone (result_of sort m (pointer_of p) (arguments_of ts))
  expand (select a i) = selected (array_of a) (gathered (expand i))
  expand (fold o a b) = products_of (fold_form o (gathered (expand a)) (gathered (expand b)))
  expand t = []

  -- The form of a pointer; any other term has that of null.
  pub pointer_of : PlainTerm → PlainPointer
  pointer_of (atom sort group n) = pointer_part (variable sort group n)
  pointer_of (choose c a b) = chosen_pointer (gathered (expand c)) (pointer_of a) (pointer_of b)
  pointer_of (read sort p c f) = pointer_part (field_of sort (pointer_of p) c f)
  pointer_of (read_at sort p c f i) = pointer_part (item_of sort (pointer_of p) c f (gathered (expand i)))
  pointer_of (result sort m p ts) = pointer_part (result_of sort m (pointer_of p) (arguments_of ts))
  pointer_of (select a i) = selected_pointer (array_of a) (gathered (expand i))
  pointer_of t = no_object

  -- The form of an array; any other term has that of some atom.
  pub array_of : PlainTerm → PlainArray
  array_of (atom sort group n) = own_items (item_sort sort) group n
  array_of (choose c a b) = chosen_array (gathered (expand c)) (array_of a) (array_of b)
  array_of (put a i x) = put_item (array_of a) (gathered (expand i)) (scalar_at (sort_of x) (expand x) (pointer_of x))
  array_of (add_at a i x) = added_at (array_of a) (one (gathered (expand i))) (gathered (expand x))
  array_of (sweep a f t x) = added_at (array_of a) (range (gathered (expand f)) (gathered (expand t))) (gathered (expand x))
  array_of t = own_items Long 0 0

  pub arguments_of : PlainTerms → PlainScalars
  arguments_of no_terms = no_scalars
  arguments_of (term_and t ts) = scalar_and (scalar_at (sort_of t) (expand t) (pointer_of t)) (arguments_of ts)

-- the part that an atom, a read or a result is
abbrev pub part_of : PlainTerm → PlainPart
part_of (atom sort group n) = variable sort group n
part_of (read sort p c f) = field_of sort (pointer_of p) c f
part_of (read_at sort p c f i) = item_of sort (pointer_of p) c f (gathered (expand i))
part_of (result sort m p ts) = result_of sort m (pointer_of p) (arguments_of ts)
part_of t = variable Long 0 0

-- Kinds of terms that are brought into their form by a function of their own.
abbrev pub is_linear : PlainTerm → Bool
is_linear (number n) = true
is_linear (truth b) = true
is_linear (add a b) = true
is_linear (sub a b) = true
is_linear (neg a) = true
is_linear (not a) = true
is_linear t = false

abbrev pub is_product : PlainTerm → Bool
is_product (mul a b) = true
is_product (and a b) = true
is_product (or a b) = true
is_product t = false

abbrev pub is_comparison : PlainTerm → Bool
is_comparison (less a b) = true
is_comparison (less_equal a b) = true
is_comparison t = false

abbrev pub is_equation : PlainTerm → Bool
is_equation (same a b) = true
is_equation t = false

abbrev pub is_choice : PlainTerm → Bool
is_choice (choose c a b) = true
is_choice t = false

abbrev pub is_division : PlainTerm → Bool
is_division (divide a n) = true
is_division (remainder a n) = true
is_division t = false

abbrev pub is_selection : PlainTerm → Bool
is_selection (select a i) = true
is_selection t = false

abbrev pub is_folding : PlainTerm → Bool
is_folding (fold o a b) = true
is_folding t = false

-- the term's products, if it is of the kind
abbrev pub expand_if : Bool → PlainTerm → Sum PlainMonomial
expand_if true t = expand t
expand_if false t = []

-- the form of a number, a truth value or a pointer
abbrev pub scalar_of : PlainTerm → PlainScalar
scalar_of t = scalar_at (sort_of t) (expand t) (pointer_of t)

-- the form of a term of that sort
abbrev pub form_at : Sort → PlainTerm → Normal
form_at Long t = normal.Scalar (number_form (gathered (expand t)))
form_at Truth t = normal.Scalar (truth_form (gathered (expand t)))
form_at Pointer t = normal.Scalar (pointer_form (pointer_of t))
form_at sort t = normal.Array (array_of t)

abbrev pub norm : PlainTerm → Normal
norm t = form_at (sort_of t) t

-- what the products with this monomial sum to, modulo 2^64
abbrev pub coefficient : PlainTerm → PlainMonomial → ℕ
coefficient t m = total (λ n. is_tied (monomial_cmp m n)) (expand t) % (2 ^ 64)

-- their coefficients are equal
abbrev pub SamePolynomial : PlainTerm → PlainTerm → Type 0
SamePolynomial t u = (m : PlainMonomial) → coefficient t m ≡ coefficient u m

-- 0 where the monomial does not stand
abbrev pub coefficient_at : Sum PlainMonomial → PlainMonomial → ℕ
coefficient_at ps m = unwrap_or (lookup (is_at (monomial_cmp m)) ps) 0

abbrev pub IsGatheredOf : Sum PlainMonomial → PlainTerm → Type 0
IsGatheredOf ps t =
    IsStrictlySortedBy monomial_cmp (keys_of ps) × NoZero ps × ((m : PlainMonomial) → coefficient_at ps m % (2 ^ 64) ≡ coefficient t m)

-- the finite map from monomials to their coefficients in the term, modulo 2^64 and without zeros
abbrev pub IsPolynomialOf : Normal → PlainTerm → Type 0
IsPolynomialOf (normal.Scalar (number_form f)) t = IsGatheredOf (products_of f) t
IsPolynomialOf (normal.Scalar (truth_form f)) t = IsGatheredOf (products_of f) t
IsPolynomialOf form t = ⊥
