-- A normal form means what its term means.
use Rattle.std.proofs.Common.{◌≡◌, ℕ, ℤ, cond, ◌+◌, ◌-◌, ◌*◌, ◌%◌, ◌^◌, ◌<◌, ◌++◌, ◌∷◌, Bool, true, false, refl, sym, ap, ap₂, ◌∙◌, arith, subst, w64, of_z, to_z}
use Rattle.std.specs.Prelude.{nat_eq}
use Rattle.ca_tree.specs.declared.tree.BinaryOp.TheVariants as op
use Rattle.ca_tree.specs.declared.tree.UnaryOp.TheVariants as sign
use Rattle.ca_model.specs.declared.value.Value.{Value as Datum}
use Rattle.ca_model.specs.declared.value.Value.TheVariants as datum
use Rattle.ca_forms.specs.declared.sort.Sort.{Sort}
use Rattle.ca_forms.specs.declared.sort.Sort.TheVariants.{Long, Bool as Truth, Pointer, LongArray, BoolArray, PointerArray}
use Rattle.ca_forms.specs.Plain.{PlainPolynomial, PlainMonomial, variable, field_of, item_of, result_of}
use Rattle.ca_forms.specs.Products.{times}
use Rattle.ca_forms.specs.Rules.{truth_sum, minus, gathered, less_sum}
use Rattle.ca_forms.specs.Arrays.{one, range}
use Rattle.ca_forms.specs.ArrayRules.{products_in, pointer_in}
use Rattle.ca_sums.specs.Sums.{Sum, total, Alike, scale}
use Rattle.ca_sums.specs.Products.{product}
use Rattle.ca_sums.proofs.Algebra.{alike_refl, alike_eq, alike_sym, alike_trans, alike_add, alike_mul, total_append, total_scale}
use Rattle.ca_norm.specs.Terms.{PlainTerm, PlainTerms, number, truth, null, atom, add, sub, neg, mul, divide, remainder, less, less_equal, same, not, and, or, choose, read, read_at, result, select, put, add_at, fold, sweep, no_terms, term_and, sort_of, item_sort, IsWord, IsScalar, IsArray, IsOf, AreSorted}
use Rattle.ca_norm.specs.Forms.{expand, pointer_of, arguments_of, same_sum, scalar_at, array_of, form_at, norm}
use Rattle.ca_meaning.specs.Operators.{signed, same_int, same_value}
use Rattle.ca_norm.specs.Meanings.{Valuation, IsOfSort, operate, chosen, number_of, between, mean, item_mean, means as means_all, bit, word_of, number_in, truth_in, index_in, polynomial_value, monomial_value, pointer_mean, scalar_mean, scalars_mean, array_item, form_mean, form_item}
use Rattle.ca_norm.proofs.Words.{word_fits, word_small}
use Rattle.ca_norm.proofs.Operations.{IsLong, IsTruth, IsTyped, sort_typed, wrapped, chosen_typed, sum_word, difference_word, product_word, minus_word, back, less_word, not_more_word, same_word, not_word, and_word, or_word, same_truth_word, chosen_word}
use Rattle.ca_norm.proofs.Rules.{gathered_value, alone_value, truth_value, less_value, zero_value, quotient_value, modulus_value, product_value, minus_value, equal_words}
use Rattle.ca_norm.proofs.Pointers.{same_pointers_value, chosen_pointer_means}
use Rattle.ca_norm.proofs.Arrays.{bit_small, bit_one, cond_typed, Told, PutTyped, FormTyped, products_value, added_typed, added_item, chosen_array_typed, chosen_array_item, selected_value, selected_pointer_value}
use Rattle.ca_forms.specs.Folds.{fold_form}
use Rattle.ca_norm.proofs.Foldings.{folded_typed, folded_word, fold_form_value}
use Rattle.ca_norm.proofs.Quotients.{quotient_typed, remainder_typed, quotient_word, remainder_word}

times_one : (k : ℕ) → k ≡ k * 1 + 0
times_one k = omega arith

item_scalar : (r : Sort) → IsArray r → IsScalar (item_sort r)
item_scalar LongArray w = tt
item_scalar BoolArray w = tt
item_scalar PointerArray w = tt
item_scalar Long w = absurd w
item_scalar Truth w = absurd w
item_scalar Pointer w = absurd w

word_scalar : (s : Sort) → IsWord s → IsScalar s
word_scalar Long w = tt
word_scalar Truth w = tt
word_scalar s w = absurd w

scalar_no_array : (s : Sort) → IsScalar s → IsArray s → ⊥
scalar_no_array Long g h = h
scalar_no_array Truth g h = h
scalar_no_array Pointer g h = h
scalar_no_array LongArray g h = g
scalar_no_array BoolArray g h = g
scalar_no_array PointerArray g h = g

no_array : (s r : Sort) → s ≡ r → IsScalar r → IsArray s → ⊥
no_array s r e g h = scalar_no_array s (subst IsScalar (sym e) g) h

-- terms of which arrays are made
abbrev makes_array : PlainTerm → Bool
makes_array (atom sort group n) = true
makes_array (choose c a b) = true
makes_array (put a i x) = true
makes_array (add_at a i x) = true
makes_array (sweep a f t x) = true
makes_array t = false

array_term : (r : Sort) (t : PlainTerm) → IsArray r → IsOf r t → makes_array t ≡ true
array_term r (atom sort group n) w i = refl
array_term r (choose c a b) w i = refl
array_term r (put a j x) w i = refl
array_term r (add_at a j x) w i = refl
array_term r (sweep a f t x) w i = refl
array_term r (number n) w i = absurd (no_array r Long i.0 tt w)
array_term r (truth b) w i = absurd (no_array r Truth i tt w)
array_term r null w i = absurd (no_array r Pointer i tt w)
array_term r (add a b) w i = absurd (no_array r Long i.0 tt w)
array_term r (sub a b) w i = absurd (no_array r Long i.0 tt w)
array_term r (neg a) w i = absurd (no_array r Long i.0 tt w)
array_term r (mul a b) w i = absurd (no_array r Long i.0 tt w)
array_term r (divide a n) w i = absurd (no_array r Long i.0 tt w)
array_term r (remainder a n) w i = absurd (no_array r Long i.0 tt w)
array_term r (less a b) w i = absurd (no_array r Truth i.0 tt w)
array_term r (less_equal a b) w i = absurd (no_array r Truth i.0 tt w)
array_term r (same a b) w i = absurd (no_array r Truth i.0 tt w)
array_term r (not a) w i = absurd (no_array r Truth i.0 tt w)
array_term r (and a b) w i = absurd (no_array r Truth i.0 tt w)
array_term r (or a b) w i = absurd (no_array r Truth i.0 tt w)
array_term r (fold o a b) w i = absurd (no_array r Long i.0 tt w)
array_term r (read s p c f) w i = absurd (no_array r s (sym i.0) i.1 w)
array_term r (read_at s p c f j) w i = absurd (no_array r s (sym i.0) i.1 w)
array_term r (result s m p ts) w i = absurd (no_array r s (sym i.0) i.1 w)
array_term r (select a j) w i = absurd (no_array r (item_sort (sort_of a)) i.1 (item_scalar (sort_of a) i.0) w)

never : false ≡ true → ⊥
never e = cc

-- a term of a sort has that sort
pub sort_is : (s : Sort) (t : PlainTerm) → IsOf s t → sort_of t ≡ s
sort_is s (number n) i = sym i.0
sort_is s (truth b) i = sym i
sort_is s null i = sym i
sort_is s (atom sort group n) i = i
sort_is s (add a b) i = sym i.0
sort_is s (sub a b) i = sym i.0
sort_is s (neg a) i = sym i.0
sort_is s (mul a b) i = sym i.0
sort_is s (divide a n) i = sym i.0
sort_is s (remainder a n) i = sym i.0
sort_is s (less a b) i = sym i.0
sort_is s (less_equal a b) i = sym i.0
sort_is s (same a b) i = sym i.0
sort_is s (not a) i = sym i.0
sort_is s (and a b) i = sym i.0
sort_is s (or a b) i = sym i.0
sort_is s (fold o a b) i = sym i.0
sort_is s (choose c a b) i = sort_is s a i.1
sort_is s (read r p c f) i = i.0
sort_is s (read_at r p c f j) i = i.0
sort_is s (result r m p ts) i = i.0
sort_is s (select a j) i = sym i.1
sort_is s (put a j x) i = sort_is s a i.1
sort_is s (add_at a j x) i = sort_is LongArray a i.1 ∙ sym i.0
sort_is s (sweep a f t x) i = sort_is LongArray a i.1 ∙ sym i.0

-- whether two pointers are equal
pointers_equal : (d e : Datum) → IsOfSort Pointer d → IsOfSort Pointer e → operate op.Equal d e ≡ datum.Bool (same_value d e)
pointers_equal (datum.Long n) e g h = absurd g
pointers_equal (datum.Bool b) e g h = absurd g
pointers_equal datum.Null (datum.Long n) g h = absurd h
pointers_equal datum.Null (datum.Bool b) g h = absurd h
pointers_equal datum.Null datum.Null g h = refl
pointers_equal datum.Null (datum.Ref r) g h = refl
pointers_equal (datum.Ref q) (datum.Long n) g h = absurd h
pointers_equal (datum.Ref q) (datum.Bool b) g h = absurd h
pointers_equal (datum.Ref q) datum.Null g h = refl
pointers_equal (datum.Ref q) (datum.Ref r) g h = refl

module _ (v : Valuation) where
  same_typed : (s : Sort) (a b : PlainTerm) → IsScalar s → IsTyped s (mean v a) → IsTyped s (mean v b) → IsTruth (operate op.Equal (mean v a) (mean v b))
  same_typed Long a b w g h = record { truth = _; is = ap₂ (operate op.Equal) g.is h.is }
  same_typed Truth a b w g h = record { truth = _; is = ap₂ (operate op.Equal) g.is h.is }
  same_typed Pointer a b w g h = record { truth = _; is = pointers_equal (mean v a) (mean v b) g h }
  same_typed s a b w g h = absurd w

  abbrev worth : Sum PlainMonomial → ℕ
  worth ps = total (monomial_value v) ps

  array_null : (s : Sort) (t : PlainTerm) → IsArray s → mean v t ≡ datum.Null → IsTyped s (mean v t)
  array_null LongArray t w e = e
  array_null BoolArray t w e = e
  array_null PointerArray t w e = e
  array_null Long t w e = absurd w
  array_null Truth t w e = absurd w
  array_null Pointer t w e = absurd w

  mutual
    pub typed : (s : Sort) (t : PlainTerm) → IsOf s t → IsTyped s (mean v t)
    typed s (number n) i = subst (λ z. IsTyped z (datum.Long n)) (sym i.0) (record { number = n; fits = i.1; is = refl })
    typed s (truth b) i = subst (λ z. IsTyped z (datum.Bool b)) (sym i) (record { truth = b; is = refl })
    typed s null i = subst (λ z. IsTyped z datum.Null) (sym i) tt
    typed s (atom r g n) i = sort_typed s _ (subst (λ z. IsOfSort z (v.value r g n)) i (v.sorted r g n))
    typed s (add a b) i = subst (λ z. IsTyped z (mean v (add a b))) (sym i.0) (let g = typed Long a i.1 in let h = typed Long b i.2 in wrapped _ _ (ap₂ (operate op.Plus) g.is h.is))
    typed s (sub a b) i = subst (λ z. IsTyped z (mean v (sub a b))) (sym i.0) (let g = typed Long a i.1 in let h = typed Long b i.2 in wrapped _ _ (ap₂ (operate op.Minus) g.is h.is))
    typed s (neg a) i = subst (λ z. IsTyped z (mean v (neg a))) (sym i.0) (let g = typed Long a i.1 in wrapped _ _ (ap (signed sign.Minus) g.is))
    typed s (mul a b) i = subst (λ z. IsTyped z (mean v (mul a b))) (sym i.0) (let g = typed Long a i.1 in let h = typed Long b i.2 in wrapped _ _ (ap₂ (operate op.Times) g.is h.is))
    typed s (divide a n) i = subst (λ z. IsTyped z (mean v (divide a n))) (sym i.0) (quotient_typed (mean v a) n (typed Long a i.1) i.3)
    typed s (remainder a n) i = subst (λ z. IsTyped z (mean v (remainder a n))) (sym i.0) (remainder_typed (mean v a) n (typed Long a i.1) i.2 i.3)
    typed s (less a b) i = subst (λ z. IsTyped z (mean v (less a b))) (sym i.0) (let g = typed Long a i.1 in let h = typed Long b i.2 in record { truth = _; is = ap₂ (operate op.Less) g.is h.is })
    typed s (less_equal a b) i = subst (λ z. IsTyped z (mean v (less_equal a b))) (sym i.0) (let g = typed Long a i.1 in let h = typed Long b i.2 in record { truth = _; is = ap₂ (operate op.LessEqual) g.is h.is })
    typed s (same a b) i = subst (λ z. IsTyped z (mean v (same a b))) (sym i.0) (same_typed (sort_of a) a b i.1 (typed (sort_of a) a i.2) (typed (sort_of a) b i.3))
    typed s (not a) i = subst (λ z. IsTyped z (mean v (not a))) (sym i.0) (let g = typed Truth a i.1 in record { truth = _; is = ap (signed sign.Not) g.is })
    typed s (and a b) i = subst (λ z. IsTyped z (mean v (and a b))) (sym i.0) (let g = typed Truth a i.1 in let h = typed Truth b i.2 in record { truth = _; is = ap₂ (operate op.And) g.is h.is })
    typed s (or a b) i = subst (λ z. IsTyped z (mean v (or a b))) (sym i.0) (let g = typed Truth a i.1 in let h = typed Truth b i.2 in record { truth = _; is = ap₂ (operate op.Or) g.is h.is })
    typed s (fold o a b) i = subst (λ z. IsTyped z (mean v (fold o a b))) (sym i.0) (folded_typed o (mean v a) (mean v b) (typed Long a i.1) (typed Long b i.2))
    typed s (choose c a b) i = chosen_typed s (mean v c) (mean v a) (mean v b) (typed Truth c i.0) (typed s a i.1) (typed s b i.2)
    typed s (read r p c f) i = sort_typed s _ (subst (λ z. IsOfSort z (v.read r (mean v p) c f)) i.0 (v.read_sorted r (mean v p) c f))
    typed s (read_at r p c f j) i = sort_typed s _ (subst (λ z. IsOfSort z (v.read_at r (mean v p) c f (mean v j))) i.0 (v.read_at_sorted r (mean v p) c f (mean v j)))
    typed s (result r m p ts) i = sort_typed s _ (subst (λ z. IsOfSort z (v.result r m (mean v p) (means_all v ts))) i.0 (v.result_sorted r m (mean v p) (means_all v ts)))
    typed s (select a j) i = subst (λ z. IsTyped z (item_mean v a (number_of (mean v j)))) (sym i.1) (item_typed (sort_of a) a (number_of (mean v j)) i.0 i.2)
    typed s (put a j x) i = array_null s (put a j x) i.0 refl
    typed s (add_at a j x) i = subst (λ z. IsTyped z datum.Null) (sym i.0) refl
    typed s (sweep a f t x) i = subst (λ z. IsTyped z datum.Null) (sym i.0) refl

    pub item_typed : (r : Sort) (t : PlainTerm) (k : ℤ) → IsArray r → IsOf r t → IsTyped (item_sort r) (item_mean v t k)
    item_typed r (atom s g n) k w i = sort_typed (item_sort r) _ (subst (λ z. IsOfSort (item_sort z) (v.item (item_sort s) g n k)) i (v.item_sorted (item_sort s) g n k))
    item_typed r (choose c a b) k w i = chosen_typed (item_sort r) _ _ _ (typed Truth c i.0) (item_typed r a k w i.1) (item_typed r b k w i.2)
    item_typed r (put a j x) k w i = cond_typed (item_sort r) _ _ _ (typed (item_sort r) x i.3) (item_typed r a k w i.1)
    item_typed r (add_at a j x) k w i =
        let g = item_typed LongArray a k tt i.1 in
        let h = typed Long x i.3 in
        subst (λ z. IsTyped (item_sort z) (item_mean v (add_at a j x) k)) (sym i.0) (cond_typed Long _ _ _ (wrapped _ _ (ap₂ (operate op.Plus) g.is h.is)) g)
    item_typed r (sweep a f t x) k w i =
        let g = item_typed LongArray a k tt i.1 in
        let h = typed Long x i.4 in
        subst (λ z. IsTyped (item_sort z) (item_mean v (sweep a f t x) k)) (sym i.0) (cond_typed Long _ _ _ (wrapped _ _ (ap₂ (operate op.Plus) g.is h.is)) g)
    item_typed r t k w i = absurd (never (array_term r t w i))

  -- what a gathered sum is worth
  given : (t : PlainTerm) → Alike (word_of (mean v t)) (worth (expand t)) → Alike (polynomial_value v (gathered (expand t))) (word_of (mean v t))
  given t h = alike_trans (gathered_value v (expand t)) (alike_sym h)

  apart : (a b : PlainTerm) → Alike (word_of (mean v a)) (worth (expand a)) → Alike (word_of (mean v b)) (worth (expand b)) → Alike (polynomial_value v (gathered (expand a ++ minus (expand b)))) (word_of (mean v a) + (2 ^ 64 - 1) * word_of (mean v b))
  apart a b h k = alike_trans (gathered_value v (expand a ++ minus (expand b))) (alike_trans (alike_eq (minus_value v (expand a) (expand b))) (alike_add (alike_sym h) (alike_mul (alike_refl (2 ^ 64 - 1)) (alike_sym k))))

  small : (d : Datum) → IsLong d → word_of d < 2 ^ 64
  small d g = subst (λ z. word_of z < 2 ^ 64) (sym g.is) (word_small g.number)

  -- as a word, for a number or a truth value
  abbrev IsWorth : Sort → PlainTerm → Type 0
  IsWorth s t = IsWord s → Alike (word_of (mean v t)) (worth (expand t))

  -- as a pointer
  abbrev Points : Sort → PlainTerm → Type 0
  Points s t = s ≡ Pointer → pointer_mean v (pointer_of t) ≡ mean v t

  same_means : (s : Sort) (a b : PlainTerm) → IsScalar s → IsTyped s (mean v a) → IsTyped s (mean v b) → IsWorth s a → IsWorth s b → Points s a → Points s b → Alike (word_of (operate op.Equal (mean v a) (mean v b))) (worth (same_sum s (expand a) (expand b) (pointer_of a) (pointer_of b)))
  same_means Long a b w g h i j k l =
      let x : ℕ = word_of (mean v a) in
      let y : ℕ = word_of (mean v b) in
      let f : PlainPolynomial = gathered (expand a ++ minus (expand b)) in
      let one : nat_eq x y ≡ nat_eq (polynomial_value v f % (2 ^ 64)) 0 = equal_words x y (small (mean v a) g) (small (mean v b) h) ∙ ap (λ z. nat_eq z 0) (sym (apart a b (i tt) (j tt)).alike) in
      alike_eq (same_word (mean v a) (mean v b) g h ∙ ap bit one ∙ sym (zero_value v f))
  same_means Truth a b w g h i j k l =
      let ps : Sum PlainMonomial = expand a in
      let qs : Sum PlainMonomial = expand b in
      let parts : worth (minus ps ++ (minus qs ++ scale 2 (product times ps qs))) ≡ (2 ^ 64 - 1) * worth ps + ((2 ^ 64 - 1) * worth qs + 2 * worth (product times ps qs)) =
      total_append (monomial_value v) (minus ps) (minus qs ++ scale 2 (product times ps qs)) ∙ ap₂ (λ m n. m + n) (total_scale (monomial_value v) (2 ^ 64 - 1) ps) (total_append (monomial_value v) (minus qs) (scale 2 (product times ps qs)) ∙ ap₂ (λ m n. m + n) (total_scale (monomial_value v) (2 ^ 64 - 1) qs) (total_scale (monomial_value v) 2 (product times ps qs))) in
      let inner : Alike (word_of (mean v a) * word_of (mean v b)) (worth (product times ps qs)) = alike_trans (alike_mul (i tt) (j tt)) (alike_sym (product_value v ps qs)) in
      alike_trans (same_truth_word (mean v a) (mean v b) g h) (alike_trans (alike_add (alike_refl 1) (alike_add (alike_mul (alike_refl (2 ^ 64 - 1)) (i tt)) (alike_add (alike_mul (alike_refl (2 ^ 64 - 1)) (j tt)) (alike_mul (alike_refl 2) inner))))
      (alike_eq (ap (λ z. 1 + z) (sym parts) ∙ sym (total_append (monomial_value v) (truth_sum true) (minus ps ++ (minus qs ++ scale 2 (product times ps qs)))))))
  same_means Pointer a b w g h i j k l =
      let x : IsOfSort Pointer (pointer_mean v (pointer_of a)) = subst (IsOfSort Pointer) (sym (k refl)) g in
      let y : IsOfSort Pointer (pointer_mean v (pointer_of b)) = subst (IsOfSort Pointer) (sym (l refl)) h in
      alike_eq (ap word_of (pointers_equal (mean v a) (mean v b) g h) ∙ ap₂ (λ d e. bit (same_value d e)) (sym (k refl)) (sym (l refl)) ∙ sym (same_pointers_value v (pointer_of a) (pointer_of b) x y))
  same_means s a b w g h i j k l = absurd w

  number_given : (t : PlainTerm) → IsOf Long t → IsWorth Long t → number_in (polynomial_value v (gathered (expand t))) ≡ mean v t
  number_given t i h =
      let g = typed Long t i in
      ap datum.Long (ap (to_z w64) ((given t (h tt)).alike ∙ ap (λ z. word_of z % (2 ^ 64)) g.is) ∙ back g.number g.fits) ∙ sym g.is

  truth_word : (t : PlainTerm) (g : IsTruth (mean v t)) → IsWorth Truth t → polynomial_value v (gathered (expand t)) % (2 ^ 64) ≡ bit g.truth
  truth_word t g h = (given t (h tt)).alike ∙ ap (λ z. word_of z % (2 ^ 64)) g.is ∙ bit_small g.truth

  truth_given : (t : PlainTerm) (g : IsTruth (mean v t)) → IsWorth Truth t → truth_in (polynomial_value v (gathered (expand t))) ≡ datum.Bool g.truth
  truth_given t g h = ap (λ z. datum.Bool (nat_eq z 1)) (truth_word t g h) ∙ ap datum.Bool (bit_one g.truth)

  worth_at : (s : Sort) (x : PlainTerm) → IsWord s → Alike (worth (products_in (scalar_at s (expand x) (pointer_of x)))) (worth (expand x))
  worth_at Long x w = alike_trans (alike_eq (products_value v (gathered (expand x)))) (gathered_value v (expand x))
  worth_at Truth x w = alike_trans (alike_eq (products_value v (gathered (expand x)))) (gathered_value v (expand x))
  worth_at s x w = absurd w

  pointer_at : (s : Sort) (x : PlainTerm) → s ≡ Pointer → pointer_mean v (pointer_in (scalar_at s (expand x) (pointer_of x))) ≡ scalar_mean v (scalar_at s (expand x) (pointer_of x))
  pointer_at s x e = subst (λ z. pointer_mean v (pointer_in (scalar_at z (expand x) (pointer_of x))) ≡ scalar_mean v (scalar_at z (expand x) (pointer_of x))) (sym e) refl

  scalar_given : (s : Sort) (t : PlainTerm) → IsScalar s → IsOf s t → IsWorth s t → Points s t → scalar_mean v (scalar_at s (expand t) (pointer_of t)) ≡ mean v t
  scalar_given Long t w i h k = number_given t i h
  scalar_given Truth t w i h k = let g = typed Truth t i in truth_given t g h ∙ sym g.is
  scalar_given Pointer t w i h k = k refl
  scalar_given s t w i h k = absurd w

  -- an item that is put
  put_means : (s : Sort) (x : PlainTerm) → IsScalar s → IsOf s x → IsWorth s x → Points s x → scalar_mean v (scalar_at (sort_of x) (expand x) (pointer_of x)) ≡ mean v x
  put_means s x w i h k = subst (λ z. scalar_mean v (scalar_at z (expand x) (pointer_of x)) ≡ mean v x) (sym (sort_is s x i)) (scalar_given s x w i h k)

  put_typed : (s : Sort) (x : PlainTerm) → IsScalar s → IsOf s x → IsWorth s x → Points s x → PutTyped v s (scalar_at (sort_of x) (expand x) (pointer_of x))
  put_typed s x w i h k =
      let is = put_means s x w i h k in
      (subst (IsTyped s) (sym is) (typed s x i), λ u. alike_trans (worth_at (sort_of x) x (subst IsWord (sym (sort_is s x i)) u)) (alike_trans (alike_sym (h u)) (alike_eq (ap word_of (sym is)))), λ e. pointer_at (sort_of x) x (sort_is s x i ∙ e))

  mutual
    pub expand_means : (s : Sort) (t : PlainTerm) → IsWord s → IsOf s t → Alike (word_of (mean v t)) (worth (expand t))
    expand_means s (number n) w i = alike_eq (word_fits n i.1 ∙ times_one (of_z w64 n))
    expand_means s (truth b) w i = alike_eq (sym (truth_value v b))
    expand_means s null w i = absurd (subst IsWord i w)
    expand_means s (atom r g n) w i = alike_eq (sym (alone_value v (variable r g n)))
    expand_means s (add a b) w i = alike_trans (sum_word (mean v a) (mean v b) (typed Long a i.1) (typed Long b i.2)) (alike_trans (alike_add (expand_means Long a tt i.1) (expand_means Long b tt i.2)) (alike_eq (sym (total_append (monomial_value v) (expand a) (expand b)))))
    expand_means s (sub a b) w i = alike_trans (difference_word (mean v a) (mean v b) (typed Long a i.1) (typed Long b i.2)) (alike_trans (alike_add (expand_means Long a tt i.1) (alike_mul (alike_refl (2 ^ 64 - 1)) (expand_means Long b tt i.2))) (alike_eq (sym (minus_value v (expand a) (expand b)))))
    expand_means s (neg a) w i = alike_trans (minus_word (mean v a) (typed Long a i.1)) (alike_trans (alike_mul (alike_refl (2 ^ 64 - 1)) (expand_means Long a tt i.1)) (alike_eq (sym (total_scale (monomial_value v) (2 ^ 64 - 1) (expand a)))))
    expand_means s (mul a b) w i = alike_trans (product_word (mean v a) (mean v b) (typed Long a i.1) (typed Long b i.2)) (alike_trans (alike_mul (expand_means Long a tt i.1) (expand_means Long b tt i.2)) (alike_sym (product_value v (expand a) (expand b))))
    expand_means s (divide a n) w i =
        alike_eq (quotient_word (mean v a) n _ (typed Long a i.1) i.3 (given a (expand_means Long a tt i.1)) ∙ sym (quotient_value v (gathered (expand a)) n i.2))
    expand_means s (remainder a n) w i =
        alike_eq (remainder_word (mean v a) n _ (typed Long a i.1) i.2 i.3 (given a (expand_means Long a tt i.1)) ∙ sym (modulus_value v (gathered (expand a)) n i.2))
    expand_means s (less a b) w i =
        alike_eq (less_word (mean v a) (mean v b) _ _ (typed Long a i.1) (typed Long b i.2) (given a (expand_means Long a tt i.1)) (given b (expand_means Long b tt i.2)) ∙ sym (less_value v (gathered (expand a)) (gathered (expand b))))
    expand_means s (less_equal a b) w i =
        let f : PlainPolynomial = gathered (expand a) in
        let g : PlainPolynomial = gathered (expand b) in
        alike_trans (not_more_word (mean v a) (mean v b) _ _ (typed Long a i.1) (typed Long b i.2) (given a (expand_means Long a tt i.1)) (given b (expand_means Long b tt i.2)))
        (alike_eq (ap (λ z. 1 + (2 ^ 64 - 1) * z) (sym (less_value v g f)) ∙ sym (minus_value v (truth_sum true) (less_sum g f))))
    expand_means s (same a b) w i =
        same_means (sort_of a) a b i.1 (typed (sort_of a) a i.2) (typed (sort_of a) b i.3) (λ u. expand_means (sort_of a) a u i.2) (λ u. expand_means (sort_of a) b u i.3) (λ e. pointer_means a (subst (λ z. IsOf z a) e i.2)) (λ e. pointer_means b (subst (λ z. IsOf z b) e i.3))
    expand_means s (not a) w i = alike_trans (not_word (mean v a) (typed Truth a i.1)) (alike_trans (alike_add (alike_refl 1) (alike_mul (alike_refl (2 ^ 64 - 1)) (expand_means Truth a tt i.1))) (alike_eq (sym (minus_value v (truth_sum true) (expand a)))))
    expand_means s (and a b) w i = alike_trans (alike_eq (and_word (mean v a) (mean v b) (typed Truth a i.1) (typed Truth b i.2))) (alike_trans (alike_mul (expand_means Truth a tt i.1) (expand_means Truth b tt i.2)) (alike_sym (product_value v (expand a) (expand b))))
    expand_means s (or a b) w i =
        let ps : Sum PlainMonomial = expand a in
        let qs : Sum PlainMonomial = expand b in
        let inner : Alike (word_of (mean v a) * word_of (mean v b)) (worth (product times ps qs)) = alike_trans (alike_mul (expand_means Truth a tt i.1) (expand_means Truth b tt i.2)) (alike_sym (product_value v ps qs)) in
        alike_trans (or_word (mean v a) (mean v b) (typed Truth a i.1) (typed Truth b i.2)) (alike_trans (alike_add (expand_means Truth a tt i.1) (alike_add (expand_means Truth b tt i.2) (alike_mul (alike_refl (2 ^ 64 - 1)) inner)))
        (alike_eq (ap (λ z. worth ps + z) (sym (minus_value v qs (product times ps qs))) ∙ sym (total_append (monomial_value v) ps (qs ++ minus (product times ps qs))))))
    expand_means s (choose c a b) w i =
        let one = expand_means s a w i.1 in
        let other = expand_means s b w i.2 in
        let inner : Alike (word_of (mean v c) * (word_of (mean v a) + (2 ^ 64 - 1) * word_of (mean v b))) (worth (product times (expand c) (expand a ++ minus (expand b)))) =
        alike_trans (alike_mul (expand_means Truth c tt i.0) (alike_trans (alike_add one (alike_mul (alike_refl (2 ^ 64 - 1)) other)) (alike_eq (sym (minus_value v (expand a) (expand b)))))) (alike_sym (product_value v (expand c) (expand a ++ minus (expand b)))) in
        alike_trans (chosen_word (mean v c) (mean v a) (mean v b) (typed Truth c i.0)) (alike_trans (alike_add other inner) (alike_eq (sym (total_append (monomial_value v) (expand b) (product times (expand c) (expand a ++ minus (expand b)))))))
    expand_means s (read r p c f) w i = alike_eq (sym (alone_value v (field_of r (pointer_of p) c f) ∙ ap (λ z. word_of (v.read r z c f)) (pointer_means p i.2)))
    expand_means s (read_at r p c f j) w i =
        alike_eq (sym (alone_value v (item_of r (pointer_of p) c f (gathered (expand j))) ∙ ap₂ (λ y z. word_of (v.read_at r y c f z)) (pointer_means p i.2) (number_given j i.3 (λ u. expand_means Long j u i.3))))
    expand_means s (result r m p ts) w i =
        alike_eq (sym (alone_value v (result_of r m (pointer_of p) (arguments_of ts)) ∙ ap₂ (λ y z. word_of (v.result r m y z)) (pointer_means p i.2) (arguments_mean ts i.3)))
    expand_means s (select a j) w i =
        let r : Sort = sort_of a in
        let word : IsWord (item_sort r) = subst IsWord i.1 w in
        let is = array_means r a i.0 i.2 in
        let k : index_in (polynomial_value v (gathered (expand j))) ≡ number_of (mean v j) = ap number_of (number_given j i.3 (λ u. expand_means Long j u i.3)) in
        alike_trans (alike_eq (ap (λ z. word_of (item_mean v a z)) (sym k) ∙ ap word_of (sym (is.1 _)))) (alike_sym (selected_value v (item_sort r) (array_of a) (gathered (expand j)) word is.0))
    expand_means s (fold o a b) w i =
        let f : PlainPolynomial = gathered (expand a) in
        let g : PlainPolynomial = gathered (expand b) in
        alike_trans (alike_eq (folded_word o (mean v a) (mean v b) _ _ (typed Long a i.1) (typed Long b i.2) (given a (expand_means Long a tt i.1)) (given b (expand_means Long b tt i.2))))
        (alike_trans (alike_sym (fold_form_value v o f g)) (alike_eq (sym (products_value v (fold_form o f g)))))
    expand_means s (put a j x) w i = absurd (scalar_no_array s (word_scalar s w) i.0)
    expand_means s (add_at a j x) w i = absurd (subst IsWord i.0 w)
    expand_means s (sweep a f t x) w i = absurd (subst IsWord i.0 w)

    pub pointer_means : (t : PlainTerm) → IsOf Pointer t → pointer_mean v (pointer_of t) ≡ mean v t
    pointer_means null i = refl
    pointer_means (atom r g n) i = refl
    pointer_means (choose c a b) i =
        let g = typed Truth c i.0 in
        let h : IsWorth Truth c = λ u. expand_means Truth c u i.0 in
        chosen_pointer_means v (gathered (expand c)) (pointer_of a) (pointer_of b) g.truth (truth_word c g h) (truth_given c g h) ∙ ap₂ (chosen (datum.Bool g.truth)) (pointer_means a i.1) (pointer_means b i.2) ∙ ap (λ z. chosen z (mean v a) (mean v b)) (sym g.is)
    pointer_means (read r p c f) i = ap (λ z. v.read r z c f) (pointer_means p i.2)
    pointer_means (read_at r p c f j) i = ap₂ (λ y z. v.read_at r y c f z) (pointer_means p i.2) (number_given j i.3 (λ u. expand_means Long j u i.3))
    pointer_means (result r m p ts) i = ap₂ (λ y z. v.result r m y z) (pointer_means p i.2) (arguments_mean ts i.3)
    pointer_means (number n) i = absurd (subst IsWord (sym i.0) tt)
    pointer_means (truth b) i = absurd (subst IsWord (sym i) tt)
    pointer_means (add a b) i = absurd (subst IsWord (sym i.0) tt)
    pointer_means (sub a b) i = absurd (subst IsWord (sym i.0) tt)
    pointer_means (neg a) i = absurd (subst IsWord (sym i.0) tt)
    pointer_means (mul a b) i = absurd (subst IsWord (sym i.0) tt)
    pointer_means (divide a n) i = absurd (subst IsWord (sym i.0) tt)
    pointer_means (remainder a n) i = absurd (subst IsWord (sym i.0) tt)
    pointer_means (less a b) i = absurd (subst IsWord (sym i.0) tt)
    pointer_means (less_equal a b) i = absurd (subst IsWord (sym i.0) tt)
    pointer_means (same a b) i = absurd (subst IsWord (sym i.0) tt)
    pointer_means (not a) i = absurd (subst IsWord (sym i.0) tt)
    pointer_means (and a b) i = absurd (subst IsWord (sym i.0) tt)
    pointer_means (or a b) i = absurd (subst IsWord (sym i.0) tt)
    pointer_means (fold o a b) i = absurd (subst IsWord (sym i.0) tt)
    pointer_means (select a j) i =
        let r : Sort = sort_of a in
        let is = array_means r a i.0 i.2 in
        let k : index_in (polynomial_value v (gathered (expand j))) ≡ number_of (mean v j) = ap number_of (number_given j i.3 (λ u. expand_means Long j u i.3)) in
        selected_pointer_value v (array_of a) (gathered (expand j)) (subst (λ z. FormTyped v z (array_of a)) (sym i.1) is.0) ∙ is.1 _ ∙ ap (item_mean v a) k
    pointer_means (put a j x) i = absurd i.0
    pointer_means (add_at a j x) i = absurd (subst IsScalar i.0 tt)
    pointer_means (sweep a f t x) i = absurd (subst IsScalar i.0 tt)

    arguments_mean : (ts : PlainTerms) → AreSorted ts → scalars_mean v (arguments_of ts) ≡ means_all v ts
    arguments_mean no_terms i = refl
    arguments_mean (term_and t ts) i =
        ap₂ (λ x xs. x ∷ xs) (scalar_given (sort_of t) t i.0 i.1 (λ u. expand_means (sort_of t) t u i.1) (λ e. pointer_means t (subst (λ z. IsOf z t) e i.1))) (arguments_mean ts i.2)

    -- an array's form has the items of the array
    pub array_means : (r : Sort) (t : PlainTerm) → IsArray r → IsOf r t → FormTyped v (item_sort r) (array_of t) × ((k : ℤ) → array_item v (array_of t) k ≡ item_mean v t k)
    array_means r (atom s g n) w i = (ap item_sort i, λ k. refl)
    array_means r (choose c a b) w i =
        let g = typed Truth c i.0 in
        let h : IsWorth Truth c = λ u. expand_means Truth c u i.0 in
        let t : Told v (gathered (expand c)) = record { truth = g.truth; word = truth_word c g h; is = truth_given c g h } in
        let x = array_means r a w i.1 in
        let y = array_means r b w i.2 in
        (chosen_array_typed v (item_sort r) (gathered (expand c)) (array_of a) (array_of b) t x.0 y.0, λ k. chosen_array_item v (item_sort r) (gathered (expand c)) (array_of a) (array_of b) k t x.0 y.0 ∙ ap₂ (chosen (datum.Bool g.truth)) (x.1 k) (y.1 k) ∙ ap (λ z. chosen z (item_mean v a k) (item_mean v b k)) (sym g.is))
    array_means r (put a j x) w i =
        let y = array_means r a w i.1 in
        let h : IsWorth (item_sort r) x = λ u. expand_means (item_sort r) x u i.3 in
        let q : Points (item_sort r) x = λ e. pointer_means x (subst (λ z. IsOf z x) e i.3) in
        let p = put_means (item_sort r) x (item_scalar r w) i.3 h q in
        let n : index_in (polynomial_value v (gathered (expand j))) ≡ number_of (mean v j) = ap number_of (number_given j i.2 (λ u. expand_means Long j u i.2)) in
        ((y.0, put_typed (item_sort r) x (item_scalar r w) i.3 h q), λ k. ap₂ (λ d e. cond (same_int (index_in (polynomial_value v (gathered (expand j)))) k) d e) p (y.1 k) ∙ ap (λ z. cond (same_int z k) (mean v x) (item_mean v a k)) n)
    array_means r (add_at a j x) w i =
        let y = array_means LongArray a tt i.1 in
        let n : index_in (polynomial_value v (gathered (expand j))) ≡ number_of (mean v j) = ap number_of (number_given j i.2 (λ u. expand_means Long j u i.2)) in
        let m : number_in (polynomial_value v (gathered (expand x))) ≡ mean v x = number_given x i.3 (λ u. expand_means Long x u i.3) in
        (subst (λ z. FormTyped v (item_sort z) (array_of (add_at a j x))) (sym i.0) (added_typed v (array_of a) (one (gathered (expand j))) (gathered (expand x)) y.0), λ k. added_item v (array_of a) (one (gathered (expand j))) (gathered (expand x)) k y.0 ∙ ap₂ (λ d e. cond (same_int (index_in (polynomial_value v (gathered (expand j)))) k) (operate op.Plus d e) d) (y.1 k) m ∙ ap (λ z. cond (same_int z k) (operate op.Plus (item_mean v a k) (mean v x)) (item_mean v a k)) n)
    array_means r (sweep a f t x) w i =
        let y = array_means LongArray a tt i.1 in
        let s = range (gathered (expand f)) (gathered (expand t)) in
        let p : index_in (polynomial_value v (gathered (expand f))) ≡ number_of (mean v f) = ap number_of (number_given f i.2 (λ u. expand_means Long f u i.2)) in
        let q : index_in (polynomial_value v (gathered (expand t))) ≡ number_of (mean v t) = ap number_of (number_given t i.3 (λ u. expand_means Long t u i.3)) in
        let m : number_in (polynomial_value v (gathered (expand x))) ≡ mean v x = number_given x i.4 (λ u. expand_means Long x u i.4) in (
          subst (λ z. FormTyped v (item_sort z) (array_of (sweep a f t x))) (sym i.0) (added_typed v (array_of a) s (gathered (expand x)) y.0),
          λ k. added_item v (array_of a) s (gathered (expand x)) k y.0
              ∙ ap₂ (λ d e. cond (between (index_in (polynomial_value v (gathered (expand f)))) (index_in (polynomial_value v (gathered (expand t)))) k) (operate op.Plus d e) d) (y.1 k) m
              ∙ ap₂ (λ z w. cond (between z w k) (operate op.Plus (item_mean v a k) (mean v x)) (item_mean v a k)) p q,
        )
    array_means r t w i = absurd (never (array_term r t w i))

  means_at : (s : Sort) (t : PlainTerm) → IsOf s t → form_mean v (form_at s t) ≡ mean v t
  means_at Long t i = number_given t i (λ u. expand_means Long t u i)
  means_at Truth t i = let g = typed Truth t i in truth_given t g (λ u. expand_means Truth t u i) ∙ sym g.is
  means_at Pointer t i = pointer_means t i
  means_at LongArray t i = sym (typed LongArray t i)
  means_at BoolArray t i = sym (typed BoolArray t i)
  means_at PointerArray t i = sym (typed PointerArray t i)

  pub means : (t : PlainTerm) → IsOf (sort_of t) t → form_mean v (norm t) ≡ mean v t
  means t i = means_at (sort_of t) t i

  -- terms of one form mean the same
  pub same_forms : (t u : PlainTerm) → IsOf (sort_of t) t → IsOf (sort_of u) u → norm t ≡ norm u → mean v t ≡ mean v u
  same_forms t u i j e = sym (means t i) ∙ ap (form_mean v) e ∙ means u j

  items_at : (s : Sort) (t : PlainTerm) (k : ℤ) → IsArray s → IsOf s t → form_item v (form_at s t) k ≡ item_mean v t k
  items_at LongArray t k w i = (array_means LongArray t w i).1 k
  items_at BoolArray t k w i = (array_means BoolArray t w i).1 k
  items_at PointerArray t k w i = (array_means PointerArray t w i).1 k
  items_at Long t k w i = absurd w
  items_at Truth t k w i = absurd w
  items_at Pointer t k w i = absurd w

  pub items_mean : (t : PlainTerm) (k : ℤ) → IsArray (sort_of t) → IsOf (sort_of t) t → form_item v (norm t) k ≡ item_mean v t k
  items_mean t k w i = items_at (sort_of t) t k w i

  -- arrays of one form have the same items
  pub same_items : (t u : PlainTerm) (k : ℤ) → IsArray (sort_of t) → IsArray (sort_of u) → IsOf (sort_of t) t → IsOf (sort_of u) u → norm t ≡ norm u → item_mean v t k ≡ item_mean v u k
  same_items t u k g h i j e = sym (items_mean t k g i) ∙ ap (λ z. form_item v z k) e ∙ items_mean u k h j
