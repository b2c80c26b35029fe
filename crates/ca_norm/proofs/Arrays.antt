-- What the rules for arrays come to under a valuation, item by item.
use Rattle.std.proofs.Common.{◌≡◌, ℕ, ◌+◌, ◌-◌, ◌*◌, ◌%◌, ◌^◌, ◌<◌, ℤ, Bool, true, false, cond, [], ◌∷◌, ◌++◌, Ordering, Less, Equal, Greater, refl, sym, ap, ap₂, ◌∙◌, arith, subst, w64, to_z}
use Rattle.std.proofs.lemmas.Int.{of_z-to_z}
use Rattle.std.specs.Prelude.{nat_eq, int_lt}
use Rattle.std.specs.Ordering.{is_eq}
use Rattle.ca_tree.specs.declared.tree.BinaryOp.TheVariants as op
use Rattle.ca_model.specs.declared.value.Value.{Value as Datum}
use Rattle.ca_model.specs.declared.value.Value.TheVariants as datum
use Rattle.ca_meaning.specs.Operators.{same_int, not_of, both}
use Rattle.ca_forms.specs.declared.sort.Sort.{Sort}
use Rattle.ca_forms.specs.declared.sort.Sort.TheVariants.{Long, Bool as Truth, Pointer, LongArray, BoolArray, PointerArray}
use Rattle.ca_forms.specs.Plain.{PlainPolynomial, PlainMonomial, PlainScalar, own_item, no_products, product_and}
use Rattle.ca_forms.specs.Lists.{products_of}
use Rattle.ca_forms.specs.Compare.{polynomial_cmp}
use Rattle.ca_forms.specs.Products.{times}
use Rattle.ca_forms.specs.Rules.{gathered, minus, negated, less_sum, truth_sum, is_below, chosen as chosen_sum}
use Rattle.ca_forms.specs.Arrays.{PlainSpan, one, range, span_cmp, PlainRows, PlainArray, own_items, put_item, with_sums, array_choice}
use Rattle.ca_forms.specs.ArrayRules.{row_if, joined_rows, put_row_at, put_row, is_empty, put_unless, put_sum, lies_in, rest_of, last_rows, summed, added_at, weighed, put_weighed, agree, chosen_rows, chosen_if, chosen_array, same_index, rows_at, products_in, pointer_in, selected, selected_pointer}
use Rattle.ca_forms.proofs.Exact.{polynomial_same, agree_same}
use Rattle.ca_forms.proofs.RowOrder.{span_same}
use Rattle.ca_sums.specs.Sums.{Sum, total, scale, Alike}
use Rattle.ca_sums.specs.Products.{product}
use Rattle.ca_sums.proofs.Algebra.{alike_refl, alike_eq, alike_sym, alike_trans, alike_add, alike_mul, alike_mod, total_append, total_scale}
use Rattle.ca_norm.specs.Terms.{IsWord}
use Rattle.ca_norm.specs.Meanings.{IsOfSort, Valuation, operate, chosen, bit, word_of, number_in, truth_in, index_in, polynomial_value, monomial_value, pointer_mean, scalar_mean}
use Rattle.ca_norm.specs.Meanings.{between, hits, rows_value, array_item}
use Rattle.ca_norm.proofs.Words.{word, word_fits}
use Rattle.ca_norm.proofs.Operations.{IsLong, IsTyped, sort_typed, wrapped, chosen_typed, sum_word, back, same_words, chosen_bit}
use Rattle.ca_norm.proofs.Quotients.{cast_fits}
use Rattle.ca_norm.proofs.Rules.{less_value, truth_value, gathered_value, alone_value, zero_value, product_value, minus_value, equal_words}
use Rattle.ca_norm.proofs.Pointers.{chosen_pointer_means}
use Rattle.ca_folds.proofs.Laws.{word as small_word}

pub bit_small : (b : Bool) → bit b % (2 ^ 64) ≡ bit b
bit_small true = refl
bit_small false = refl

pub bit_one : (b : Bool) → nat_eq (bit b) 1 ≡ b
bit_one true = refl
bit_one false = refl

no_more : (x : ℕ) → x ≡ x + 0
no_more x = omega arith

nought : (b t : ℕ) → t ≡ b * 0 + t
nought b t = omega arith

-- a word that is read as a number is that word
word_back : (x : ℕ) → x < 2 ^ 64 → word (to_z w64 x) ≡ x
word_back x h = word_fits (to_z w64 x) (cast_fits x) ∙ of_z-to_z w64 x h

pub number_word : (n : ℕ) → Alike (word_of (number_in n)) n
number_word n = alike_trans (alike_eq (word_back (n % (2 ^ 64)) (small_word n))) (alike_mod n)

pub number_typed : (n : ℕ) → IsLong (number_in n)
number_typed n = record { number = index_in n; fits = cast_fits (n % (2 ^ 64)); is = refl }

-- numbers of one word are equal
same_long : (d e : Datum) → IsLong d → IsLong e → Alike (word_of d) (word_of e) → d ≡ e
same_long d e g h a =
    let words : word g.number % (2 ^ 64) ≡ word h.number % (2 ^ 64) = sym (ap (λ z. word_of z % (2 ^ 64)) g.is) ∙ a.alike ∙ ap (λ z. word_of z % (2 ^ 64)) h.is in
    g.is ∙ ap datum.Long (sym (back g.number g.fits) ∙ ap (to_z w64) words ∙ back h.number h.fits) ∙ sym h.is

pub cond_chosen : (b : Bool) (d e : Datum) → cond b d e ≡ chosen (datum.Bool b) d e
cond_chosen true d e = refl
cond_chosen false d e = refl

chosen_itself : (b : Bool) (d : Datum) → d ≡ chosen (datum.Bool b) d d
chosen_itself true d = refl
chosen_itself false d = refl

pub cond_typed : (s : Sort) (b : Bool) (d e : Datum) → IsTyped s d → IsTyped s e → IsTyped s (cond b d e)
cond_typed s true d e g h = g
cond_typed s false d e g h = h

swapped : (r x t : ℕ) → r + (x + t) ≡ (r + t) + x
swapped r x t = omega arith

joined : (b p q t : ℕ) → b * (q + p) + t ≡ b * p + (b * q + t)
joined b p q t = grind arith

passed : (x r t : ℕ) → x + (r + t) ≡ r + (x + t)
passed x r t = omega arith

none_weighed : (t n c : ℕ) → t ≡ t + n * (c * 0)
none_weighed t n c = grind arith

one_weighed : (b n c f t r : ℕ) → (b * (n * (c * f)) + t) + n * (c * r) ≡ t + n * (c * (b * f + r))
one_weighed b n c f t r = grind arith

first_rows : (r x y : ℕ) → Alike (r + ((y + 1 * (1 * x)) + (2 ^ 64 - 1) * (1 * y))) (r + x)
first_rows r x y = record { alike = omega arith }

second_rows : (r x y : ℕ) → Alike (r + ((y + 1 * (0 * x)) + (2 ^ 64 - 1) * (0 * y))) (r + y)
second_rows r x y = record { alike = omega arith }

one_of : (d n : ℕ) → d + 1 * n ≡ d + n
one_of d n = omega arith

none_of : (d n : ℕ) → d + 0 * n ≡ d
none_of d n = omega arith

module _ (v : Valuation) where
  -- what a condition is worth
  pub record Told (c : PlainPolynomial) : Type 0 where
    pub truth : Bool
    pub word : polynomial_value v c % (2 ^ 64) ≡ bit truth
    pub is : truth_in (polynomial_value v c) ≡ datum.Bool truth

  -- items that are put are of the sort, and are worth what they mean
  abbrev pub PutTyped : Sort → PlainScalar → Type 0
  PutTyped s x = IsTyped s (scalar_mean v x) × (IsWord s → Alike (total (monomial_value v) (products_in x)) (word_of (scalar_mean v x))) × (s ≡ Pointer → pointer_mean v (pointer_in x) ≡ scalar_mean v x)

  -- an array whose items are of the sort
  abbrev pub FormTyped : Sort → PlainArray → Type 0
  FormTyped s (own_items r g n) = r ≡ s
  FormTyped s (put_item a i x) = FormTyped s a × PutTyped s x
  FormTyped s (with_sums a rs) = (s ≡ Long) × FormTyped s a
  FormTyped s (array_choice c a b) = Told c × FormTyped s a × FormTyped s b

  pub item_typed : (s : Sort) (a : PlainArray) (k : ℤ) → FormTyped s a → IsTyped s (array_item v a k)
  item_typed s (own_items r g n) k h = sort_typed s _ (subst (λ z. IsOfSort z (v.item r g n k)) h (v.item_sorted r g n k))
  item_typed s (put_item a i x) k h = cond_typed s _ _ _ h.1.0 (item_typed s a k h.0)
  item_typed s (with_sums a rs) k h = subst (λ z. IsTyped z (array_item v (with_sums a rs) k)) (sym h.0) (number_typed _)
  item_typed s (array_choice c a b) k h = chosen_typed s _ _ _ (record { truth = _; is = refl }) (item_typed s a k h.1) (item_typed s b k h.2)

  pub products_value : (f : PlainPolynomial) → total (monomial_value v) (products_of f) ≡ polynomial_value v f
  products_value no_products = refl
  products_value (product_and m c f) = ap (λ z. c * monomial_value v m + z) (products_value f)

  abbrev at : PlainPolynomial → ℤ → Bool
  at i k = same_int (index_in (polynomial_value v i)) k

  row_if_value : (i : PlainSpan) (f : PlainPolynomial) (rs : PlainRows) (k : ℤ) → rows_value v k (row_if i f rs) ≡ bit (hits v i k) * polynomial_value v f + rows_value v k rs
  row_if_value i no_products rs k = nought (bit (hits v i k)) (rows_value v k rs)
  row_if_value i (product_and m c f) rs k = refl

  joined_value : (r : PlainSpan × PlainPolynomial) (f : PlainPolynomial) → Alike (polynomial_value v (joined_rows r f)) (polynomial_value v r.1 + polynomial_value v f)
  joined_value r f =
      alike_trans (gathered_value v (products_of r.1 ++ products_of f)) (alike_eq (total_append (monomial_value v) (products_of r.1) (products_of f) ∙ ap₂ (λ x y. x + y) (products_value r.1) (products_value f)))

  put_row_at_value : (o : Ordering) (i : PlainSpan) (f : PlainPolynomial) (r : PlainSpan × PlainPolynomial) (rs below : PlainRows) (k : ℤ) → span_cmp i r.0 ≡ o → Alike (rows_value v k below) (bit (hits v i k) * polynomial_value v f + rows_value v k rs) → Alike (rows_value v k (put_row_at o i f r rs below)) (bit (hits v i k) * polynomial_value v f + rows_value v k (r ∷ rs))
  put_row_at_value Less i f r rs below k e h = alike_eq (row_if_value i f (r ∷ rs) k)
  put_row_at_value Equal i f r rs below k e h =
      alike_trans (alike_eq (row_if_value i (joined_rows r f) rs k)) (alike_trans (alike_add (alike_mul (alike_refl (bit (hits v i k))) (joined_value r f)) (alike_refl (rows_value v k rs)))
      (alike_eq (joined (bit (hits v i k)) (polynomial_value v f) (polynomial_value v r.1) (rows_value v k rs) ∙ ap (λ z. bit (hits v i k) * polynomial_value v f + (bit (hits v z k) * polynomial_value v r.1 + rows_value v k rs)) (span_same i r.0 e))))
  put_row_at_value Greater i f r rs below k e h =
      alike_trans (alike_add (alike_refl (bit (hits v r.0 k) * polynomial_value v r.1)) h) (alike_eq (passed (bit (hits v r.0 k) * polynomial_value v r.1) (bit (hits v i k) * polynomial_value v f) (rows_value v k rs)))

  -- a sum more at an index is that much more at the item there
  put_row_value : (i : PlainSpan) (f : PlainPolynomial) (rs : PlainRows) (k : ℤ) → Alike (rows_value v k (put_row i f rs)) (bit (hits v i k) * polynomial_value v f + rows_value v k rs)
  put_row_value i f [] k = alike_eq (row_if_value i f [] k)
  put_row_value i f (r ∷ rs) k = put_row_at_value (span_cmp i r.0) i f r rs (put_row i f rs) k refl (put_row_value i f rs k)

  -- nothing lies in a range whose bounds are equal
  is_tie : (o : Ordering) → is_eq o ≡ true → o ≡ Equal
  is_tie Less e = cc
  is_tie Equal e = refl
  is_tie Greater e = cc

  never : (b : Bool) → both (not_of b) b ≡ false
  never true = refl
  never false = refl

  empty_hits : (i : PlainSpan) (k : ℤ) → is_empty i ≡ true → hits v i k ≡ false
  empty_hits (one i) k e = cc
  empty_hits (range f t) k e =
      let same : f ≡ t = polynomial_same f t (is_tie (polynomial_cmp f t) e) in
      ap (λ z. between (index_in (polynomial_value v f)) (index_in (polynomial_value v z)) k) (sym same) ∙ never (int_lt k (index_in (polynomial_value v f)))

  none_added : (b : Bool) (n t : ℕ) → b ≡ false → t ≡ bit b * n + t
  none_added false n t e = let z : t ≡ 0 * n + t = omega arith in z
  none_added true n t e = cc

  unless_value : (b : Bool) (i : PlainSpan) (f : PlainPolynomial) (rs : PlainRows) (k : ℤ) → is_empty i ≡ b → Alike (rows_value v k (put_unless b i f rs)) (bit (hits v i k) * polynomial_value v f + rows_value v k rs)
  unless_value true i f rs k e = alike_eq (none_added (hits v i k) (polynomial_value v f) (rows_value v k rs) (empty_hits i k e))
  unless_value false i f rs k e = put_row_value i f rs k

  put_sum_value : (i : PlainSpan) (f : PlainPolynomial) (rs : PlainRows) (k : ℤ) → Alike (rows_value v k (put_sum i f rs)) (bit (hits v i k) * polynomial_value v f + rows_value v k rs)
  put_sum_value i f rs k = unless_value (is_empty i) i f rs k refl

  summed_value : (a : PlainArray) (rs : PlainRows) (k : ℤ) → Alike (word_of (array_item v (summed a rs) k)) (word_of (array_item v a k) + rows_value v k rs)
  summed_value a [] k = alike_eq (no_more (word_of (array_item v a k)))
  summed_value a (r ∷ rs) k = number_word _

  parts_value : (a : PlainArray) (k : ℤ) → Alike (word_of (array_item v a k)) (word_of (array_item v (rest_of a) k) + rows_value v k (last_rows a))
  parts_value (own_items r g n) k = alike_eq (no_more _)
  parts_value (put_item a i x) k = alike_eq (no_more _)
  parts_value (with_sums a rs) k = number_word _
  parts_value (array_choice c a b) k = alike_eq (no_more _)

  rest_typed : (s : Sort) (a : PlainArray) → FormTyped s a → FormTyped s (rest_of a)
  rest_typed s (own_items r g n) h = h
  rest_typed s (put_item a i x) h = h
  rest_typed s (with_sums a rs) h = h.1
  rest_typed s (array_choice c a b) h = h

  summed_typed : (a : PlainArray) (rs : PlainRows) → FormTyped Long a → FormTyped Long (summed a rs)
  summed_typed a [] h = h
  summed_typed a (r ∷ rs) h = (refl, h)

  pub added_typed : (a : PlainArray) (i : PlainSpan) (f : PlainPolynomial) → FormTyped Long a → FormTyped Long (added_at a i f)
  added_typed a i f h = summed_typed (rest_of a) (put_sum i f (last_rows a)) (rest_typed Long a h)

  more_by : (b : Bool) (d e : Datum) (n : ℕ) → IsLong d → IsLong e → Alike (word_of e) (word_of d + bit b * n) → e ≡ cond b (operate op.Plus d (number_in n)) d
  more_by true d e n g h a =
      let sum : IsLong (operate op.Plus d (number_in n)) = wrapped _ _ (ap₂ (operate op.Plus) g.is refl) in
      same_long e _ h sum (alike_trans a (alike_trans (alike_eq (one_of (word_of d) n)) (alike_trans (alike_add (alike_refl (word_of d)) (alike_sym (number_word n))) (alike_sym (sum_word d (number_in n) g (number_typed n))))))
  more_by false d e n g h a = same_long e d h g (alike_trans a (alike_eq (none_of (word_of d) n)))

  -- the items of an array with a sum more
  pub added_item : (a : PlainArray) (i : PlainSpan) (f : PlainPolynomial) (k : ℤ) → FormTyped Long a → array_item v (added_at a i f) k ≡ cond (hits v i k) (operate op.Plus (array_item v a k) (number_in (polynomial_value v f))) (array_item v a k)
  added_item a i f k h =
      let r : ℕ = word_of (array_item v (rest_of a) k) in
      let t : ℕ = rows_value v k (last_rows a) in
      let x : ℕ = bit (hits v i k) * polynomial_value v f in
      let words : Alike (word_of (array_item v (added_at a i f) k)) (word_of (array_item v a k) + x) =
      alike_trans (summed_value (rest_of a) (put_sum i f (last_rows a)) k) (alike_trans (alike_add (alike_refl r) (put_sum_value i f (last_rows a) k)) (alike_trans (alike_eq (swapped r x t)) (alike_add (alike_sym (parts_value a k)) (alike_refl x)))) in
      more_by (hits v i k) (array_item v a k) (array_item v (added_at a i f) k) (polynomial_value v f) (item_typed Long a k h) (item_typed Long (added_at a i f) k (added_typed a i f h)) words

  weighed_value : (n : ℕ) (c f : PlainPolynomial) → Alike (polynomial_value v (weighed n c f)) (n * (polynomial_value v c * polynomial_value v f))
  weighed_value n c f =
      let ps : Sum PlainMonomial = product times (products_of c) (products_of f) in
      alike_trans (gathered_value v (scale n ps)) (alike_trans (alike_eq (total_scale (monomial_value v) n ps)) (alike_mul (alike_refl n) (alike_trans (product_value v (products_of c) (products_of f)) (alike_mul (alike_eq (products_value c)) (alike_eq (products_value f))))))

  put_weighed_value : (n : ℕ) (c : PlainPolynomial) (xs rs : PlainRows) (k : ℤ) → Alike (rows_value v k (put_weighed n c xs rs)) (rows_value v k rs + n * (polynomial_value v c * rows_value v k xs))
  put_weighed_value n c [] rs k = alike_eq (none_weighed (rows_value v k rs) n (polynomial_value v c))
  put_weighed_value n c (x ∷ xs) rs k =
      let one : Alike (rows_value v k (put_sum x.0 (weighed n c x.1) rs)) (bit (hits v x.0 k) * (n * (polynomial_value v c * polynomial_value v x.1)) + rows_value v k rs) =
      alike_trans (put_sum_value x.0 (weighed n c x.1) rs k) (alike_add (alike_mul (alike_refl (bit (hits v x.0 k))) (weighed_value n c x.1)) (alike_refl (rows_value v k rs))) in
      alike_trans (put_weighed_value n c xs (put_sum x.0 (weighed n c x.1) rs) k) (alike_trans (alike_add one (alike_refl (n * (polynomial_value v c * rows_value v k xs))))
      (alike_eq (one_weighed (bit (hits v x.0 k)) n (polynomial_value v c) (polynomial_value v x.1) (rows_value v k rs) (rows_value v k xs))))

  chosen_rows_value : (c : PlainPolynomial) (rs ss : PlainRows) (k : ℤ) → Alike (rows_value v k (chosen_rows c rs ss)) ((rows_value v k ss + 1 * (polynomial_value v c * rows_value v k rs)) + (2 ^ 64 - 1) * (polynomial_value v c * rows_value v k ss))
  chosen_rows_value c rs ss k =
      alike_trans (put_weighed_value (2 ^ 64 - 1) c ss (put_weighed 1 c rs ss) k) (alike_add (put_weighed_value 1 c rs ss k) (alike_refl ((2 ^ 64 - 1) * (polynomial_value v c * rows_value v k ss))))

  -- where there are no sums, an array is the one before its last gathered sum
  no_rows : (s : Sort) (a : PlainArray) → (s ≡ Long → ⊥) → FormTyped s a → (last_rows a ≡ []) × (rest_of a ≡ a)
  no_rows s (own_items r g m) n h = (refl, refl)
  no_rows s (put_item a i x) n h = (refl, refl)
  no_rows s (with_sums a rs) n h = absurd (n h.0)
  no_rows s (array_choice c a b) n h = (refl, refl)

  alone_chosen : (s : Sort) (c : PlainPolynomial) (a b : PlainArray) → (s ≡ Long → ⊥) → FormTyped s a → FormTyped s b → rest_of a ≡ rest_of b → (chosen_if true c a b ≡ b) × (a ≡ b)
  alone_chosen s c a b n g h e =
      let x = no_rows s a n g in
      let y = no_rows s b n h in
      (ap₂ (λ rs ss. summed (rest_of b) (chosen_rows c rs ss)) x.0 y.0 ∙ y.1, sym x.1 ∙ e ∙ y.1)

  truth_alike : (c : PlainPolynomial) (g : Told c) → Alike (polynomial_value v c) (bit g.truth)
  truth_alike c g = record { alike = g.word ∙ sym (bit_small g.truth) }

  by_truth : (t : Bool) (r x y : ℕ) (d e : Datum) → Alike (word_of d) (r + x) → Alike (word_of e) (r + y) → Alike (r + ((y + 1 * (bit t * x)) + (2 ^ 64 - 1) * (bit t * y))) (word_of (chosen (datum.Bool t) d e))
  by_truth true r x y d e g h = alike_trans (first_rows r x y) (alike_sym g)
  by_truth false r x y d e g h = alike_trans (second_rows r x y) (alike_sym h)

  long_chosen : (c : PlainPolynomial) (a b : PlainArray) (k : ℤ) (g : Told c) → FormTyped Long a → FormTyped Long b → rest_of a ≡ rest_of b → array_item v (chosen_if true c a b) k ≡ chosen (datum.Bool g.truth) (array_item v a k) (array_item v b k)
  long_chosen c a b k g ha hb e =
      let r : ℕ = word_of (array_item v (rest_of b) k) in
      let x : ℕ = rows_value v k (last_rows a) in
      let y : ℕ = rows_value v k (last_rows b) in
      let t = truth_alike c g in
      let one : Alike (word_of (array_item v a k)) (r + x) = alike_trans (parts_value a k) (alike_eq (ap (λ z. word_of (array_item v z k) + x) e)) in
      let inner : Alike ((y + 1 * (polynomial_value v c * x)) + (2 ^ 64 - 1) * (polynomial_value v c * y)) ((y + 1 * (bit g.truth * x)) + (2 ^ 64 - 1) * (bit g.truth * y)) =
      alike_add (alike_add (alike_refl y) (alike_mul (alike_refl 1) (alike_mul t (alike_refl x)))) (alike_mul (alike_refl (2 ^ 64 - 1)) (alike_mul t (alike_refl y))) in
      let words : Alike (word_of (array_item v (chosen_if true c a b) k)) (r + ((y + 1 * (bit g.truth * x)) + (2 ^ 64 - 1) * (bit g.truth * y))) =
      alike_trans (summed_value (rest_of b) (chosen_rows c (last_rows a) (last_rows b)) k) (alike_add (alike_refl r) (alike_trans (chosen_rows_value c (last_rows a) (last_rows b) k) inner)) in
      same_long _ _ (item_typed Long _ k (summed_typed (rest_of b) (chosen_rows c (last_rows a) (last_rows b)) (rest_typed Long b hb)))
      (chosen_typed Long _ _ _ (record { truth = g.truth; is = refl }) (item_typed Long a k ha) (item_typed Long b k hb))
      (alike_trans words (by_truth g.truth r x y (array_item v a k) (array_item v b k) one (parts_value b k)))

  alone_item : (s : Sort) (c : PlainPolynomial) (a b : PlainArray) (k : ℤ) (t : Bool) → (s ≡ Long → ⊥) → FormTyped s a → FormTyped s b → rest_of a ≡ rest_of b → array_item v (chosen_if true c a b) k ≡ chosen (datum.Bool t) (array_item v a k) (array_item v b k)
  alone_item s c a b k t n g h e =
      let is = alone_chosen s c a b n g h e in
      ap (λ z. array_item v z k) is.0 ∙ chosen_itself t (array_item v b k) ∙ ap (λ z. chosen (datum.Bool t) (array_item v z k) (array_item v b k)) (sym is.1)

  -- two arrays that agree but for a last gathered sum
  agreed_item : (s : Sort) (c : PlainPolynomial) (a b : PlainArray) (k : ℤ) (g : Told c) → FormTyped s a → FormTyped s b → rest_of a ≡ rest_of b → array_item v (chosen_if true c a b) k ≡ chosen (datum.Bool g.truth) (array_item v a k) (array_item v b k)
  agreed_item Long c a b k g x y e = long_chosen c a b k g x y e
  agreed_item Truth c a b k g x y e = alone_item Truth c a b k g.truth (λ z. cc) x y e
  agreed_item Pointer c a b k g x y e = alone_item Pointer c a b k g.truth (λ z. cc) x y e
  agreed_item LongArray c a b k g x y e = alone_item LongArray c a b k g.truth (λ z. cc) x y e
  agreed_item BoolArray c a b k g x y e = alone_item BoolArray c a b k g.truth (λ z. cc) x y e
  agreed_item PointerArray c a b k g x y e = alone_item PointerArray c a b k g.truth (λ z. cc) x y e

  agreed_typed : (s : Sort) (c : PlainPolynomial) (a b : PlainArray) → FormTyped s a → FormTyped s b → rest_of a ≡ rest_of b → FormTyped s (chosen_if true c a b)
  agreed_typed Long c a b x y e = summed_typed (rest_of b) (chosen_rows c (last_rows a) (last_rows b)) (rest_typed Long b y)
  agreed_typed Truth c a b x y e = subst (FormTyped Truth) (sym (alone_chosen Truth c a b (λ z. cc) x y e).0) y
  agreed_typed Pointer c a b x y e = subst (FormTyped Pointer) (sym (alone_chosen Pointer c a b (λ z. cc) x y e).0) y
  agreed_typed LongArray c a b x y e = subst (FormTyped LongArray) (sym (alone_chosen LongArray c a b (λ z. cc) x y e).0) y
  agreed_typed BoolArray c a b x y e = subst (FormTyped BoolArray) (sym (alone_chosen BoolArray c a b (λ z. cc) x y e).0) y
  agreed_typed PointerArray c a b x y e = subst (FormTyped PointerArray) (sym (alone_chosen PointerArray c a b (λ z. cc) x y e).0) y

  chosen_if_item : (t : Bool) (s : Sort) (c : PlainPolynomial) (a b : PlainArray) (k : ℤ) (g : Told c) → agree a b ≡ t → FormTyped s a → FormTyped s b → array_item v (chosen_if t c a b) k ≡ chosen (datum.Bool g.truth) (array_item v a k) (array_item v b k)
  chosen_if_item true s c a b k g e x y = agreed_item s c a b k g x y (agree_same (rest_of a) (rest_of b) e)
  chosen_if_item false s c a b k g e x y = ap (λ z. chosen z (array_item v a k) (array_item v b k)) g.is

  pub chosen_array_item : (s : Sort) (c : PlainPolynomial) (a b : PlainArray) (k : ℤ) (g : Told c) → FormTyped s a → FormTyped s b → array_item v (chosen_array c a b) k ≡ chosen (datum.Bool g.truth) (array_item v a k) (array_item v b k)
  chosen_array_item s c a b k g x y = chosen_if_item (agree a b) s c a b k g refl x y

  chosen_if_typed : (t : Bool) (s : Sort) (c : PlainPolynomial) (a b : PlainArray) → Told c → agree a b ≡ t → FormTyped s a → FormTyped s b → FormTyped s (chosen_if t c a b)
  chosen_if_typed true s c a b g e x y = agreed_typed s c a b x y (agree_same (rest_of a) (rest_of b) e)
  chosen_if_typed false s c a b g e x y = (g, x, y)

  pub chosen_array_typed : (s : Sort) (c : PlainPolynomial) (a b : PlainArray) → Told c → FormTyped s a → FormTyped s b → FormTyped s (chosen_array c a b)
  chosen_array_typed s c a b g x y = chosen_if_typed (agree a b) s c a b g refl x y

  -- whether two indexes are equal
  same_index_value : (i j : PlainPolynomial) → total (monomial_value v) (same_index i j) ≡ bit (at i (index_in (polynomial_value v j)))
  same_index_value i j =
      let x : ℕ = polynomial_value v i % (2 ^ 64) in
      let y : ℕ = polynomial_value v j % (2 ^ 64) in
      let f : PlainPolynomial = gathered (products_of i ++ minus (products_of j)) in
      let apart : Alike (polynomial_value v f) (x + (2 ^ 64 - 1) * y) =
      alike_trans (gathered_value v (products_of i ++ minus (products_of j))) (alike_trans (alike_eq (minus_value v (products_of i) (products_of j) ∙ ap₂ (λ m n. m + (2 ^ 64 - 1) * n) (products_value i) (products_value j))) (alike_sym (alike_add (alike_mod (polynomial_value v i)) (alike_mul (alike_refl (2 ^ 64 - 1)) (alike_mod (polynomial_value v j)))))) in
      let words : nat_eq (polynomial_value v f % (2 ^ 64)) 0 ≡ nat_eq x y = ap (λ z. nat_eq z 0) apart.alike ∙ sym (equal_words x y (small_word (polynomial_value v i)) (small_word (polynomial_value v j))) in
      let numbers : same_int (to_z w64 x) (to_z w64 y) ≡ nat_eq x y = same_words (to_z w64 x) (to_z w64 y) (cast_fits x) (cast_fits y) ∙ ap₂ nat_eq (word_back x (small_word (polynomial_value v i))) (word_back y (small_word (polynomial_value v j))) in
      zero_value v f ∙ ap bit (words ∙ sym numbers)

  chosen_sum_value : (cs ps qs : Sum PlainMonomial) (b : Bool) (d e : Datum) → Alike (total (monomial_value v) cs) (bit b) → Alike (total (monomial_value v) ps) (word_of d) → Alike (total (monomial_value v) qs) (word_of e) → Alike (total (monomial_value v) (chosen_sum cs ps qs)) (word_of (chosen (datum.Bool b) d e))
  chosen_sum_value cs ps qs b d e g h i =
      alike_trans (alike_eq (total_append (monomial_value v) qs (product times cs (ps ++ minus qs)))) (alike_trans (alike_add i (alike_trans (product_value v cs (ps ++ minus qs)) (alike_mul g (alike_trans (alike_eq (minus_value v ps qs)) (alike_add h (alike_mul (alike_refl (2 ^ 64 - 1)) i)))))) (alike_sym (chosen_bit b d e)))

  bit_both : (a b : Bool) → bit a * bit b ≡ bit (both a b)
  bit_both true b = let z : 1 * bit b ≡ bit b = omega arith in z
  bit_both false b = let z : 0 * bit b ≡ 0 = omega arith in z

  bit_not : (b : Bool) → Alike (1 + (2 ^ 64 - 1) * bit b) (bit (not_of b))
  bit_not true = record { alike = refl }
  bit_not false = record { alike = refl }

  -- whether an index lies in a span
  lies_value : (i : PlainSpan) (j : PlainPolynomial) → Alike (total (monomial_value v) (lies_in i j)) (bit (hits v i (index_in (polynomial_value v j))))
  lies_value (one i) j = alike_eq (same_index_value i j)
  lies_value (range f t) j =
      let below : Bool = is_below (polynomial_value v j) (polynomial_value v f) in
      let above : Bool = is_below (polynomial_value v j) (polynomial_value v t) in
      let from : Alike (total (monomial_value v) (negated (less_sum j f))) (bit (not_of below)) =
      alike_trans (alike_eq (minus_value v (truth_sum true) (less_sum j f) ∙ ap₂ (λ m n. m + (2 ^ 64 - 1) * n) (truth_value v true) (less_value v j f))) (bit_not below) in
      alike_trans (product_value v (negated (less_sum j f)) (less_sum j t)) (alike_trans (alike_mul from (alike_eq (less_value v j t))) (alike_eq (bit_both (not_of below) above)))

  rows_at_value : (j : PlainPolynomial) (rs : PlainRows) → Alike (total (monomial_value v) (rows_at j rs)) (rows_value v (index_in (polynomial_value v j)) rs)
  rows_at_value j [] = alike_refl 0
  rows_at_value j (r ∷ rs) =
      alike_trans (alike_eq (total_append (monomial_value v) (product times (lies_in r.0 j) (products_of r.1)) (rows_at j rs))) (alike_add (alike_trans (product_value v (lies_in r.0 j) (products_of r.1)) (alike_mul (lies_value r.0 j) (alike_eq (products_value r.1)))) (rows_at_value j rs))

  -- the item that is selected is the array's item at the index
  pub selected_value : (s : Sort) (a : PlainArray) (j : PlainPolynomial) → IsWord s → FormTyped s a → Alike (total (monomial_value v) (selected a j)) (word_of (array_item v a (index_in (polynomial_value v j))))
  selected_value s (own_items r g n) j w h = alike_eq (alone_value v (own_item r g n j))
  selected_value s (put_item a i x) j w h =
      let k : ℤ = index_in (polynomial_value v j) in
      alike_trans (chosen_sum_value (same_index i j) (products_in x) (selected a j) (at i k) (scalar_mean v x) (array_item v a k) (alike_eq (same_index_value i j)) (h.1.1 w) (selected_value s a j w h.0)) (alike_eq (ap word_of (sym (cond_chosen (at i k) (scalar_mean v x) (array_item v a k)))))
  selected_value s (with_sums a rs) j w h =
      alike_trans (alike_eq (total_append (monomial_value v) (selected a j) (rows_at j rs))) (alike_trans (alike_add (selected_value s a j w h.1) (rows_at_value j rs)) (alike_sym (number_word _)))
  selected_value s (array_choice c a b) j w h =
      let k : ℤ = index_in (polynomial_value v j) in
      alike_trans (chosen_sum_value (products_of c) (selected a j) (selected b j) h.0.truth (array_item v a k) (array_item v b k) (alike_trans (alike_eq (products_value c)) (truth_alike c h.0)) (selected_value s a j w h.1) (selected_value s b j w h.2)) (alike_eq (ap (λ z. word_of (chosen z (array_item v a k) (array_item v b k))) (sym h.0.is)))

  pub selected_pointer_value : (a : PlainArray) (j : PlainPolynomial) → FormTyped Pointer a → pointer_mean v (selected_pointer a j) ≡ array_item v a (index_in (polynomial_value v j))
  selected_pointer_value (own_items r g n) j h = refl
  selected_pointer_value (put_item a i x) j h =
      let k : ℤ = index_in (polynomial_value v j) in
      let b : Bool = at i k in
      let word : polynomial_value v (gathered (same_index i j)) % (2 ^ 64) ≡ bit b = (gathered_value v (same_index i j)).alike ∙ ap (λ z. z % (2 ^ 64)) (same_index_value i j) ∙ bit_small b in
      let is : truth_in (polynomial_value v (gathered (same_index i j))) ≡ datum.Bool b = ap (λ z. datum.Bool (nat_eq z 1)) word ∙ ap datum.Bool (bit_one b) in
      chosen_pointer_means v (gathered (same_index i j)) (pointer_in x) (selected_pointer a j) b word is ∙ ap₂ (chosen (datum.Bool b)) (h.1.2 refl) (selected_pointer_value a j h.0) ∙ sym (cond_chosen b (scalar_mean v x) (array_item v a k))
  selected_pointer_value (with_sums a rs) j h = absurd (subst IsWord (sym h.0) tt)
  selected_pointer_value (array_choice c a b) j h =
      let k : ℤ = index_in (polynomial_value v j) in
      chosen_pointer_means v c (selected_pointer a j) (selected_pointer b j) h.0.truth h.0.word h.0.is ∙ ap₂ (chosen (datum.Bool h.0.truth)) (selected_pointer_value a j h.1) (selected_pointer_value b j h.2) ∙ ap (λ z. chosen z (array_item v a k) (array_item v b k)) (sym h.0.is)
