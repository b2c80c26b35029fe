-- Products of monomials: powers of one part are joined, and a truth value stands at most once.
use Rattle.std.specs.Prelude.{ℕ, ◌+◌, Bool, true, false, cond, List, [], ◌∷◌}
use Rattle.std.specs.Ordering.{match_ordering}
use Rattle.ca_forms.specs.declared.sort.Sort.{Sort}
use Rattle.ca_forms.specs.declared.sort.Sort.TheVariants.{Bool as Truth}
use Rattle.ca_forms.specs.Plain.{PlainPart, PlainMonomial, variable, is_less, is_zero, same_pointer, quotient, modulus, field_of, item_of, result_of, own_item, fold_of}
use Rattle.ca_forms.specs.Lists.{monomial_of, powers_of}
use Rattle.ca_forms.specs.Compare.{part_cmp}

abbrev pub is_truth_sort : Sort → Bool
is_truth_sort Truth = true
is_truth_sort sort = false

abbrev pub is_truth : PlainPart → Bool
is_truth (variable s g n) = is_truth_sort s
is_truth (is_less a b) = true
is_truth (is_zero a) = true
is_truth (same_pointer p q) = true
is_truth (quotient a n) = false
is_truth (modulus a n) = false
is_truth (field_of s p c f) = is_truth_sort s
is_truth (item_of s p c f i) = is_truth_sort s
is_truth (result_of s m p xs) = is_truth_sort s
is_truth (own_item s g n i) = is_truth_sort s
is_truth (fold_of o w xs) = false

-- two powers of one part
abbrev pub joined : PlainPart × ℕ → PlainPart × ℕ → PlainPart × ℕ
joined p q = (p.0, cond (is_truth p.0) p.1 (p.1 + q.1))

-- a power before the product of the rest with ys, which is told for each ys
abbrev pub merge_in : PlainPart × ℕ → (List (PlainPart × ℕ) → List (PlainPart × ℕ)) → List (PlainPart × ℕ) → List (PlainPart × ℕ)
merge_in x rest [] = x ∷ rest []
merge_in x rest (y ∷ ys) = match_ordering (part_cmp x.0 y.0) (x ∷ rest (y ∷ ys)) (joined x y ∷ rest ys) (y ∷ merge_in x rest ys)

abbrev pub merge : List (PlainPart × ℕ) → List (PlainPart × ℕ) → List (PlainPart × ℕ)
merge [] ys = ys
merge (x ∷ xs) ys = merge_in x (merge xs) ys

abbrev pub times : PlainMonomial → PlainMonomial → PlainMonomial
times m n = monomial_of (merge (powers_of m) (powers_of n))
