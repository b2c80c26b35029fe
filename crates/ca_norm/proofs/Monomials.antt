-- A product of monomials is worth the product of their values.
use Rattle.std.proofs.Common.{◌≡◌, ℕ, ◌+◌, ◌*◌, Bool, true, false, cond, List, [], ◌∷◌, Ordering, Less, Equal, Greater, refl, sym, ap, ap₂, ◌∙◌, arith, mul_assoc, one-mul, pow-add}
use Rattle.std.specs.Ordering.{match_ordering}
use Rattle.ca_model.specs.declared.value.Value.{Value as Datum}
use Rattle.ca_model.specs.declared.value.Value.TheVariants as datum
use Rattle.ca_forms.specs.declared.sort.Sort.{Sort}
use Rattle.ca_forms.specs.declared.sort.Sort.TheVariants.{Long, Bool as Truth, Pointer, LongArray, BoolArray, PointerArray}
use Rattle.ca_forms.specs.Plain.{PlainPart, PlainMonomial, variable, is_less, is_zero, same_pointer, quotient, modulus, field_of, item_of, result_of, own_item, fold_of, no_powers, power_and}
use Rattle.ca_forms.specs.Lists.{monomial_of, powers_of}
use Rattle.ca_forms.specs.Compare.{part_cmp}
use Rattle.ca_forms.specs.Products.{is_truth, is_truth_sort, joined, merge_in, merge, times}
use Rattle.ca_forms.proofs.Exact.{part_same}
use Rattle.ca_norm.specs.Meanings.{IsOfSort, Valuation, bit, power, word_of, number_in, index_in, part_value, polynomial_value, monomial_value, pointer_mean, scalars_mean}

pub monomial_powers : (m : PlainMonomial) → monomial_of (powers_of m) ≡ m
monomial_powers no_powers = refl
monomial_powers (power_and p e m) = ap (power_and p e) (monomial_powers m)

bit_twice : (b : Bool) → bit b ≡ bit b * bit b
bit_twice true = refl
bit_twice false = refl

truth_word : (d : Datum) → IsOfSort Truth d → word_of d ≡ word_of d * word_of d
truth_word (datum.Long n) h = absurd h
truth_word (datum.Bool b) h = bit_twice b
truth_word datum.Null h = absurd h
truth_word (datum.Ref r) h = absurd h

sort_twice : (s : Sort) (d : Datum) → is_truth_sort s ≡ true → IsOfSort s d → word_of d ≡ word_of d * word_of d
sort_twice Truth d e h = truth_word d h
sort_twice Long d e h = absurd cc
sort_twice Pointer d e h = absurd cc
sort_twice LongArray d e h = absurd cc
sort_twice BoolArray d e h = absurd cc
sort_twice PointerArray d e h = absurd cc

module _ (v : Valuation) where
  abbrev value : PlainPart × ℕ → ℕ
  value p = power (is_truth p.0) (part_value v p.0) p.1

  abbrev value_all : List (PlainPart × ℕ) → ℕ
  value_all [] = 1
  value_all (p ∷ ps) = value p * value_all ps

  pub value_of : (ps : List (PlainPart × ℕ)) → monomial_value v (monomial_of ps) ≡ value_all ps
  value_of [] = refl
  value_of (p ∷ ps) = ap (λ k. value p * k) (value_of ps)

  truth_twice : (p : PlainPart) → is_truth p ≡ true → part_value v p ≡ part_value v p * part_value v p
  truth_twice (variable s g n) e = sort_twice s _ e (v.sorted s g n)
  truth_twice (is_less f g) e = bit_twice _
  truth_twice (is_zero f) e = bit_twice _
  truth_twice (same_pointer p q) e = bit_twice _
  truth_twice (quotient f n) e = absurd cc
  truth_twice (modulus f n) e = absurd cc
  truth_twice (field_of s p c f) e = sort_twice s _ e (v.read_sorted s (pointer_mean v p) c f)
  truth_twice (item_of s p c f i) e = sort_twice s _ e (v.read_at_sorted s (pointer_mean v p) c f (number_in (polynomial_value v i)))
  truth_twice (result_of s m p xs) e = sort_twice s _ e (v.result_sorted s m (pointer_mean v p) (scalars_mean v xs))
  truth_twice (fold_of o w xs) e = absurd cc
  truth_twice (own_item s g n i) e = sort_twice s _ e (v.item_sorted s g n (index_in (polynomial_value v i)))

  joined_at : (b : Bool) (p : PlainPart) (d e : ℕ) → is_truth p ≡ b → power b (part_value v p) (cond b d (d + e)) ≡ power b (part_value v p) d * power b (part_value v p) e
  joined_at true p d e t = truth_twice p t
  joined_at false p d e t = pow-add (part_value v p) d e

  joined_value : (p q : PlainPart × ℕ) → p.0 ≡ q.0 → value (joined p q) ≡ value p * value q
  joined_value p q e =
      joined_at (is_truth p.0) p.0 p.1 q.1 refl ∙ ap (λ r. value p * power (is_truth r) (part_value v r) q.1) e

  past : (a b x y : ℕ) → b * (a * (x * y)) ≡ (a * x) * (b * y)
  past a b x y = grind arith

  both : (a b x y : ℕ) → (a * b) * (x * y) ≡ (a * x) * (b * y)
  both a b x y = grind arith

  in_at : (o : Ordering) (x y : PlainPart × ℕ) (xs ys rest_all rest below : List (PlainPart × ℕ)) → part_cmp x.0 y.0 ≡ o → value_all rest_all ≡ value_all xs * (value y * value_all ys) → value_all rest ≡ value_all xs * value_all ys → value_all below ≡ (value x * value_all xs) * value_all ys → value_all (match_ordering o (x ∷ rest_all) (joined x y ∷ rest) (y ∷ below)) ≡ (value x * value_all xs) * (value y * value_all ys)
  in_at Less x y xs ys rest_all rest below e h k l = ap (λ z. value x * z) h ∙ sym (mul_assoc (value x) (value_all xs) (value y * value_all ys))
  in_at Equal x y xs ys rest_all rest below e h k l = ap₂ (λ a b. a * b) (joined_value x y (part_same x.0 y.0 e)) k ∙ both (value x) (value y) (value_all xs) (value_all ys)
  in_at Greater x y xs ys rest_all rest below e h k l = ap (λ z. value y * z) (l ∙ mul_assoc (value x) (value_all xs) (value_all ys)) ∙ past (value x) (value y) (value_all xs) (value_all ys)

  merge_in_value : (x : PlainPart × ℕ) (xs : List (PlainPart × ℕ)) (rest : List (PlainPart × ℕ) → List (PlainPart × ℕ)) → ((ys : List (PlainPart × ℕ)) → value_all (rest ys) ≡ value_all xs * value_all ys) → (ys : List (PlainPart × ℕ)) → value_all (merge_in x rest ys) ≡ (value x * value_all xs) * value_all ys
  merge_in_value x xs rest h [] = ap (λ z. value x * z) (h []) ∙ sym (mul_assoc (value x) (value_all xs) 1)
  merge_in_value x xs rest h (y ∷ ys) =
      in_at (part_cmp x.0 y.0) x y xs ys (rest (y ∷ ys)) (rest ys) (merge_in x rest ys) refl (h (y ∷ ys)) (h ys) (merge_in_value x xs rest h ys)

  pub merge_value : (xs ys : List (PlainPart × ℕ)) → value_all (merge xs ys) ≡ value_all xs * value_all ys
  merge_value [] ys = sym (one-mul (value_all ys))
  merge_value (x ∷ xs) ys = merge_in_value x xs (merge xs) (merge_value xs) ys

  value_powers : (m : PlainMonomial) → value_all (powers_of m) ≡ monomial_value v m
  value_powers m = sym (value_of (powers_of m)) ∙ ap (monomial_value v) (monomial_powers m)

  pub times_value : (m n : PlainMonomial) → monomial_value v (times m n) ≡ monomial_value v m * monomial_value v n
  times_value m n = value_of (merge (powers_of m) (powers_of n)) ∙ merge_value (powers_of m) (powers_of n) ∙ ap₂ (λ a b. a * b) (value_powers m) (value_powers n)
