-- What a term and a normal form mean, once it is said what the atoms stand for.
use Rattle.std.specs.Prelude.{ℕ, ℤ, pos, int_lt, cond, ◌+◌, ◌*◌, ◌%◌, ◌^◌, Bool, true, false, nat_eq, List, [], ◌∷◌, FitsSigned, Result, Ok, Err}
use Rattle.std.specs.Int.{int_wrap, cast_signed, cast_unsigned, w64}
use Rattle.ca_tree.specs.declared.tree.BinaryOp.{BinaryOp}
use Rattle.ca_tree.specs.declared.tree.BinaryOp.TheVariants as op
use Rattle.ca_tree.specs.declared.tree.UnaryOp.TheVariants as sign
use Rattle.ca_model.specs.declared.value.Value.{Value as Datum}
use Rattle.ca_model.specs.declared.value.Value.TheVariants as datum
use Rattle.ca_model.specs.declared.value.TrapKind.{TrapKind}
use Rattle.ca_meaning.specs.Operators.{operated, signed, same_int, same_value, not_of, both}
use Rattle.ca_forms.specs.declared.sort.Sort.{Sort}
use Rattle.ca_forms.specs.declared.sort.Sort.TheVariants.{Long, Bool as Truth, Pointer, LongArray, BoolArray, PointerArray}
use Rattle.ca_forms.specs.declared.form.Normal.{Normal}
use Rattle.ca_forms.specs.declared.form.Normal.TheVariants as normal
use Rattle.ca_forms.specs.Plain.{PlainPart, PlainPolynomial, PlainMonomial, PlainPointer, PlainScalar, PlainScalars, variable, is_less, is_zero, same_pointer, quotient, modulus, field_of, item_of, result_of, own_item, fold_of, no_products, product_and, no_powers, power_and, no_object, pointer_part, pointer_choice, number_form, truth_form, pointer_form, no_scalars, scalar_and}
use Rattle.ca_forms.specs.Arrays.{PlainSpan, one, range, PlainRows, PlainArray, own_items, put_item, with_sums, array_choice}
use Rattle.ca_forms.specs.Products.{is_truth}
use Rattle.ca_forms.specs.Rules.{is_below, divided, left_over}
use Rattle.ca_folds.specs.declared.operator.FoldOp.{FoldOp}
use Rattle.ca_folds.specs.declared.operator.FoldOp.TheVariants.{Max, Min, BitAnd, BitOr, BitXor}
use Rattle.ca_folds.specs.Operators.{folded, neutral}
use Rattle.ca_norm.specs.Terms.{PlainTerm, PlainTerms, number, truth, atom, add, sub, neg, mul, divide, remainder, less, less_equal, same, not, and, or, choose, read, read_at, result, select, put, add_at, fold, sweep, no_terms, term_and, item_sort}

-- An array is no single value and stands as null; its items have values of their own.
abbrev pub IsOfSort : Sort → Datum → Type 0
IsOfSort Long (datum.Long n) = FitsSigned w64 n
IsOfSort Truth (datum.Bool b) = Unit {0}
IsOfSort Pointer datum.Null = Unit {0}
IsOfSort Pointer (datum.Ref r) = Unit {0}
IsOfSort LongArray datum.Null = Unit {0}
IsOfSort BoolArray datum.Null = Unit {0}
IsOfSort PointerArray datum.Null = Unit {0}
IsOfSort sort v = ⊥

abbrev pub IsObject : Datum → Type 0
IsObject (datum.Ref r) = Unit {0}
IsObject v = ⊥

-- What atoms, items of atoms that are arrays, reads of other objects and calls of value methods stand for: each a value
-- of its sort. The receiver, which is atom 0 of group 0, isn't null. An item has the atom's group and number and the
-- index, which may be any number; a read the object, the field's class and number, and maybe an index; a call the method,
-- the receiver and the arguments.
pub record Valuation : Type 0 where
  pub value : Sort → ℕ → ℕ → Datum
  pub item : Sort → ℕ → ℕ → ℤ → Datum
  pub read : Sort → Datum → ℕ → ℕ → Datum
  pub read_at : Sort → Datum → ℕ → ℕ → Datum → Datum
  pub result : Sort → ℕ → Datum → List Datum → Datum
  pub sorted : (sort : Sort) (group n : ℕ) → IsOfSort sort (value sort group n)
  pub item_sorted : (sort : Sort) (group n : ℕ) (k : ℤ) → IsOfSort sort (item sort group n k)
  pub read_sorted : (sort : Sort) (p : Datum) (c f : ℕ) → IsOfSort sort (read sort p c f)
  pub read_at_sorted : (sort : Sort) (p : Datum) (c f : ℕ) (i : Datum) → IsOfSort sort (read_at sort p c f i)
  pub result_sorted : (sort : Sort) (m : ℕ) (p : Datum) (xs : List Datum) → IsOfSort sort (result sort m p xs)
  pub receiver : IsObject (value Pointer 0 0)

-- the value that an operator gives, and null where it gives none
abbrev pub value_or_null : Result Datum TrapKind → Datum
value_or_null (Ok v) = v
value_or_null (Err kind) = datum.Null

abbrev pub operate : BinaryOp → Datum → Datum → Datum
operate op a b = value_or_null (operated op a b)

-- an operator whose operands may stand in any order, as one of the program
abbrev pub binary_of : FoldOp → BinaryOp
binary_of Max = op.Max
binary_of Min = op.Min
binary_of BitAnd = op.BitAnd
binary_of BitOr = op.BitOr
binary_of BitXor = op.BitXor

abbrev pub chosen : Datum → Datum → Datum → Datum
chosen (datum.Bool true) a b = a
chosen c a b = b

-- the number that a value is, and 0 for any other
abbrev pub number_of : Datum → ℤ
number_of (datum.Long n) = n
number_of v = pos 0

-- a number from one up to but not including another
abbrev pub between : ℤ → ℤ → ℤ → Bool
between from to k = both (not_of (int_lt k from)) (int_lt k to)

abbrev mutual
  -- Numbers wrap round at 64 bits.
  pub mean : Valuation → PlainTerm → Datum
  mean v (number n) = datum.Long n
  mean v (truth b) = datum.Bool b
  mean v (atom sort group n) = v.value sort group n
  mean v (add a b) = operate op.Plus (mean v a) (mean v b)
  mean v (sub a b) = operate op.Minus (mean v a) (mean v b)
  mean v (neg a) = signed sign.Minus (mean v a)
  mean v (mul a b) = operate op.Times (mean v a) (mean v b)
  mean v (divide a n) = operate op.Divide (mean v a) (datum.Long n)
  mean v (remainder a n) = operate op.Remainder (mean v a) (datum.Long n)
  mean v (less a b) = operate op.Less (mean v a) (mean v b)
  mean v (less_equal a b) = operate op.LessEqual (mean v a) (mean v b)
  mean v (same a b) = operate op.Equal (mean v a) (mean v b)
  mean v (not a) = signed sign.Not (mean v a)
  mean v (and a b) = operate op.And (mean v a) (mean v b)
  mean v (or a b) = operate op.Or (mean v a) (mean v b)
  mean v (choose c a b) = chosen (mean v c) (mean v a) (mean v b)
  mean v (read sort p c f) = v.read sort (mean v p) c f
  mean v (read_at sort p c f i) = v.read_at sort (mean v p) c f (mean v i)
  mean v (result sort m p ts) = v.result sort m (mean v p) (means v ts)
  mean v (select a i) = item_mean v a (number_of (mean v i))
  mean v (fold o a b) = operate (binary_of o) (mean v a) (mean v b)
  mean v t = datum.Null

  -- the item of an array at a number
  pub item_mean : Valuation → PlainTerm → ℤ → Datum
  item_mean v (atom sort group n) k = v.item (item_sort sort) group n k
  item_mean v (choose c a b) k = chosen (mean v c) (item_mean v a k) (item_mean v b k)
  item_mean v (put a i x) k = cond (same_int (number_of (mean v i)) k) (mean v x) (item_mean v a k)
  item_mean v (add_at a i x) k = cond (same_int (number_of (mean v i)) k) (operate op.Plus (item_mean v a k) (mean v x)) (item_mean v a k)
  item_mean v (sweep a f t x) k = cond (between (number_of (mean v f)) (number_of (mean v t)) k) (operate op.Plus (item_mean v a k) (mean v x)) (item_mean v a k)
  item_mean v t k = datum.Null

  pub means : Valuation → PlainTerms → List Datum
  means v no_terms = []
  means v (term_and t ts) = mean v t ∷ means v ts

abbrev pub bit : Bool → ℕ
bit true = 1
bit false = 0

-- a number or truth value as a word
abbrev pub word_of : Datum → ℕ
word_of (datum.Long n) = cast_unsigned w64 (int_wrap w64 n)
word_of (datum.Bool b) = bit b
word_of v = 0

-- the number and the truth value that a word is
abbrev pub number_in : ℕ → Datum
number_in n = datum.Long (cast_signed w64 (n % (2 ^ 64)))

abbrev pub truth_in : ℕ → Datum
truth_in n = datum.Bool (nat_eq (n % (2 ^ 64)) 1)

-- a truth value that stands several times is worth what it is worth once
abbrev pub power : Bool → ℕ → ℕ → ℕ
power true x e = x
power false x e = x ^ e

-- the number that a word is
abbrev pub index_in : ℕ → ℤ
index_in n = cast_signed w64 (n % (2 ^ 64))

abbrev mutual
  -- a part that is a number or a truth value, as a word
  pub part_value : Valuation → PlainPart → ℕ
  part_value v (variable sort group n) = word_of (v.value sort group n)
  part_value v (is_less f g) = bit (is_below (polynomial_value v f) (polynomial_value v g))
  part_value v (is_zero f) = bit (nat_eq (polynomial_value v f % (2 ^ 64)) 0)
  part_value v (same_pointer p q) = bit (same_value (pointer_mean v p) (pointer_mean v q))
  part_value v (quotient f n) = divided (polynomial_value v f) (cast_signed w64 n)
  part_value v (modulus f n) = left_over (polynomial_value v f) (cast_signed w64 n)
  part_value v (field_of sort p c f) = word_of (v.read sort (pointer_mean v p) c f)
  part_value v (item_of sort p c f i) = word_of (v.read_at sort (pointer_mean v p) c f (number_in (polynomial_value v i)))
  part_value v (result_of sort m p xs) = word_of (v.result sort m (pointer_mean v p) (scalars_mean v xs))
  part_value v (own_item sort group n i) = word_of (v.item sort group n (index_in (polynomial_value v i)))
  part_value v (fold_of o w xs) = folded o w (scalars_worth v o xs)

  -- each monomial's value times its coefficient, summed
  pub polynomial_value : Valuation → PlainPolynomial → ℕ
  polynomial_value v no_products = 0
  polynomial_value v (product_and m c f) = c * monomial_value v m + polynomial_value v f

  pub monomial_value : Valuation → PlainMonomial → ℕ
  monomial_value v no_powers = 1
  monomial_value v (power_and p e m) = power (is_truth p) (part_value v p) e * monomial_value v m

  -- a form as a word, and what operands come to
  pub scalar_value : Valuation → PlainScalar → ℕ
  scalar_value v (number_form f) = polynomial_value v f
  scalar_value v (truth_form f) = polynomial_value v f
  scalar_value v (pointer_form p) = 0

  pub scalars_worth : Valuation → FoldOp → PlainScalars → ℕ
  scalars_worth v o no_scalars = neutral o
  scalars_worth v o (scalar_and x xs) = folded o (scalar_value v x) (scalars_worth v o xs)

  -- a part that is a pointer
  pub part_mean : Valuation → PlainPart → Datum
  part_mean v (variable sort group n) = v.value sort group n
  part_mean v (field_of sort p c f) = v.read sort (pointer_mean v p) c f
  part_mean v (item_of sort p c f i) = v.read_at sort (pointer_mean v p) c f (number_in (polynomial_value v i))
  part_mean v (result_of sort m p xs) = v.result sort m (pointer_mean v p) (scalars_mean v xs)
  part_mean v (own_item sort group n i) = v.item sort group n (index_in (polynomial_value v i))
  part_mean v p = datum.Null

  pub pointer_mean : Valuation → PlainPointer → Datum
  pointer_mean v no_object = datum.Null
  pointer_mean v (pointer_part p) = part_mean v p
  pointer_mean v (pointer_choice c p q) = chosen (truth_in (polynomial_value v c)) (pointer_mean v p) (pointer_mean v q)

  pub scalar_mean : Valuation → PlainScalar → Datum
  scalar_mean v (number_form f) = number_in (polynomial_value v f)
  scalar_mean v (truth_form f) = truth_in (polynomial_value v f)
  scalar_mean v (pointer_form p) = pointer_mean v p

  pub scalars_mean : Valuation → PlainScalars → List Datum
  scalars_mean v no_scalars = []
  scalars_mean v (scalar_and x xs) = scalar_mean v x ∷ scalars_mean v xs

-- whether item k lies in a span
abbrev pub hits : Valuation → PlainSpan → ℤ → Bool
hits v (one i) k = same_int (index_in (polynomial_value v i)) k
hits v (range f t) k = between (index_in (polynomial_value v f)) (index_in (polynomial_value v t)) k

-- what rows add to item k
abbrev pub rows_value : Valuation → ℤ → PlainRows → ℕ
rows_value v k [] = 0
rows_value v k (r ∷ rs) = bit (hits v r.0 k) * polynomial_value v r.1 + rows_value v k rs

-- item k of an array's form
abbrev pub array_item : Valuation → PlainArray → ℤ → Datum
array_item v (own_items sort group n) k = v.item sort group n k
array_item v (put_item a i x) k = cond (same_int (index_in (polynomial_value v i)) k) (scalar_mean v x) (array_item v a k)
array_item v (with_sums a rs) k = number_in (word_of (array_item v a k) + rows_value v k rs)
array_item v (array_choice c a b) k = chosen (truth_in (polynomial_value v c)) (array_item v a k) (array_item v b k)

-- what a form means, null for an array
abbrev pub form_mean : Valuation → Normal → Datum
form_mean v (normal.Scalar x) = scalar_mean v x
form_mean v (normal.Array a) = datum.Null

-- and the items of an array
abbrev pub form_item : Valuation → Normal → ℤ → Datum
form_item v (normal.Scalar x) k = datum.Null
form_item v (normal.Array a) k = array_item v a k
