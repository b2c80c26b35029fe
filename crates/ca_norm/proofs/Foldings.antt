-- What operators leave as words whose operands may stand in any order.
use Rattle.std.proofs.Common.{◌≡◌, ℕ, zero, suc, ◌%◌, ◌^◌, ℤ, FitsSigned, Bool, true, false, cond, List, [], ◌∷◌, Some, None, refl, sym, ap, ap₂, ◌∙◌, arith, w64, of_z, to_z}
use Rattle.std.specs.Prelude.{nat_eq, int_lt}
use Rattle.std.proofs.Math.Nat.{mod-eq_of_lt}
use Rattle.ca_sums.specs.Sums.{Alike}
use Rattle.ca_folds.specs.declared.operator.FoldOp.{FoldOp}
use Rattle.ca_folds.specs.declared.operator.FoldOp.TheVariants.{Max, Min, BitAnd, BitOr, BitXor}
use Rattle.ca_folds.specs.Operators.{fold_number, fold_inj, folded_longs, folded}
use Rattle.ca_folds.proofs.Laws.{fold_small, same_number}
use Rattle.ca_folds.proofs.Worth.{worth, gives_worth}
use Rattle.ca_forms.specs.Plain.{PlainPart, PlainPolynomial, PlainMonomial, PlainScalar, PlainScalars, variable, is_less, is_zero, same_pointer, quotient, modulus, field_of, item_of, result_of, own_item, fold_of, no_powers, power_and, no_products, product_and, number_form, truth_form, pointer_form, no_scalars, scalar_and}
use Rattle.ca_forms.specs.Lists.{scalars_of}
use Rattle.ca_forms.specs.Compare.{scalar_cmp}
use Rattle.ca_forms.specs.Rules.{alone}
use Rattle.ca_forms.specs.Folds.{items_of, part_made, monomial_made, made_in, scalar_word, scalar_made, word_scalar, fold_scalar, number_in, folded_scalars, fold_form}
use Rattle.ca_forms.proofs.Exact.{scalars_exact}
use Rattle.ca_model.specs.declared.value.Value.{Value as Datum}
use Rattle.ca_model.specs.declared.value.Value.TheVariants as datum
use Rattle.ca_norm.specs.Meanings.{Valuation, operate, binary_of, word_of, polynomial_value, part_value, scalar_value, scalars_worth}
use Rattle.ca_norm.proofs.Words.{word_fits}
use Rattle.ca_norm.proofs.Operations.{IsLong, back}
use Rattle.ca_norm.proofs.Quotients.{cast_fits}
use Rattle.ca_norm.proofs.Rules.{constancy_value, alone_value, polynomial_sum}

-- ---- on values

longs_fit : (o : FoldOp) (a b : ℤ) → FitsSigned w64 a → FitsSigned w64 b → FitsSigned w64 (folded_longs o a b)
longs_fit Max a b f g = either (int_lt b a)
  where
    either : (t : Bool) → FitsSigned w64 (cond t a b)
    either true = f
    either false = g
longs_fit Min a b f g = either (int_lt b a)
  where
    either : (t : Bool) → FitsSigned w64 (cond t b a)
    either true = g
    either false = f
longs_fit BitAnd a b f g = cast_fits _
longs_fit BitOr a b f g = cast_fits _
longs_fit BitXor a b f g = cast_fits _

longs_given : (o : FoldOp) (a b : ℤ) → operate (binary_of o) (datum.Long a) (datum.Long b) ≡ datum.Long (folded_longs o a b)
longs_given Max a b = refl
longs_given Min a b = refl
longs_given BitAnd a b = refl
longs_given BitOr a b = refl
longs_given BitXor a b = refl

given_is : (o : FoldOp) (d e : Datum) (g : IsLong d) (h : IsLong e) → operate (binary_of o) d e ≡ datum.Long (folded_longs o g.number h.number)
given_is o d e g h = ap₂ (operate (binary_of o)) g.is h.is ∙ longs_given o g.number h.number

pub folded_typed : (o : FoldOp) (d e : Datum) → IsLong d → IsLong e → IsLong (operate (binary_of o) d e)
folded_typed o d e g h = record { number = folded_longs o g.number h.number; fits = longs_fit o g.number h.number g.fits h.fits; is = given_is o d e g h }

-- as words
pub folded_word : (o : FoldOp) (d e : Datum) (m n : ℕ) → IsLong d → IsLong e → Alike m (word_of d) → Alike n (word_of e) → word_of (operate (binary_of o) d e) ≡ folded o m n
folded_word o d e m n g h k l =
    let a : to_z w64 (m % (2 ^ 64)) ≡ g.number = ap (to_z w64) (k.alike ∙ ap (λ z. word_of z % (2 ^ 64)) g.is) ∙ back g.number g.fits in
    let b : to_z w64 (n % (2 ^ 64)) ≡ h.number = ap (to_z w64) (l.alike ∙ ap (λ z. word_of z % (2 ^ 64)) h.is) ∙ back h.number h.fits in
    ap word_of (given_is o d e g h) ∙ word_fits (folded_longs o g.number h.number) (longs_fit o g.number h.number g.fits h.fits) ∙ ap₂ (λ x y. of_z w64 (folded_longs o x y)) (sym a) (sym b)

-- ---- on forms

pub some_same : {T : Type 0} (x y : T) → Some x ≡ Some y → x ≡ y
some_same x y e = cc

module _ (v : Valuation) where
  worths : (o : FoldOp) (xs : PlainScalars) → scalars_worth v o xs ≡ worth o (scalar_value v) (items_of xs)
  worths o no_scalars = refl
  worths o (scalar_and x xs) = ap (folded o (scalar_value v x)) (worths o xs)

  listed_worths : (o : FoldOp) (xs : List PlainScalar) → scalars_worth v o (scalars_of xs) ≡ worth o (scalar_value v) xs
  listed_worths o [] = refl
  listed_worths o (x ∷ xs) = ap (folded o (scalar_value v x)) (listed_worths o xs)

  word_says : (x : PlainScalar) (n : ℕ) → scalar_word x ≡ Some n → scalar_value v x ≡ n
  word_says (number_form f) n e = constancy_value v f n e
  word_says (truth_form f) n e = cc
  word_says (pointer_form p) n e = cc

  part_opens : (op : FoldOp) (b : Bool) (o : FoldOp) (w : ℕ) (xs : PlainScalars) (s : ℕ × List PlainScalar) → nat_eq (fold_number op) (fold_number o) ≡ b → cond b (Some (w, items_of xs)) None ≡ Some s → part_value v (fold_of o w xs) ≡ folded op s.0 (worth op (scalar_value v) s.1)
  part_opens op true o w xs s e h =
      let is : o ≡ op = sym (fold_inj op o (same_number (fold_number op) (fold_number o) e)) in
      let t : (w, items_of xs) ≡ s = some_same (w, items_of xs) s h in
      ap (folded o w) (worths o xs) ∙ ap (λ p. folded p w (worth p (scalar_value v) (items_of xs))) is ∙ ap (λ r. folded op r.0 (worth op (scalar_value v) r.1)) t
  part_opens op false o w xs s e h = cc

  one_opens : (op : FoldOp) (p : PlainPart) (s : ℕ × List PlainScalar) → part_made op p ≡ Some s → polynomial_value v (product_and (power_and p 1 no_powers) 1 no_products) ≡ folded op s.0 (worth op (scalar_value v) s.1)
  one_opens op (fold_of o w xs) s h = polynomial_sum v (alone (fold_of o w xs)) ∙ alone_value v (fold_of o w xs) ∙ part_opens op (nat_eq (fold_number op) (fold_number o)) o w xs s refl h
  one_opens op (variable t g n) s h = cc
  one_opens op (is_less f g) s h = cc
  one_opens op (is_zero f) s h = cc
  one_opens op (same_pointer p q) s h = cc
  one_opens op (quotient f n) s h = cc
  one_opens op (modulus f n) s h = cc
  one_opens op (field_of t p c f) s h = cc
  one_opens op (item_of t p c f i) s h = cc
  one_opens op (result_of t m p xs) s h = cc
  one_opens op (own_item t g n i) s h = cc

  power_opens : (op : FoldOp) (b : Bool) (p : PlainPart) (e : ℕ) (s : ℕ × List PlainScalar) → nat_eq e 1 ≡ b → cond b (part_made op p) None ≡ Some s → polynomial_value v (product_and (power_and p e no_powers) 1 no_products) ≡ folded op s.0 (worth op (scalar_value v) s.1)
  power_opens op true p e s h k = ap (λ i. polynomial_value v (product_and (power_and p i no_powers) 1 no_products)) (same_number e 1 h) ∙ one_opens op p s k
  power_opens op false p e s h k = cc

  monomial_opens : (op : FoldOp) (m : PlainMonomial) (s : ℕ × List PlainScalar) → monomial_made op m ≡ Some s → polynomial_value v (product_and m 1 no_products) ≡ folded op s.0 (worth op (scalar_value v) s.1)
  monomial_opens op (power_and p e no_powers) s h = power_opens op (nat_eq e 1) p e s refl h
  monomial_opens op no_powers s h = cc
  monomial_opens op (power_and p e (power_and q d m)) s h = cc

  product_opens : (op : FoldOp) (b : Bool) (m : PlainMonomial) (c : ℕ) (s : ℕ × List PlainScalar) → nat_eq c 1 ≡ b → cond b (monomial_made op m) None ≡ Some s → polynomial_value v (product_and m c no_products) ≡ folded op s.0 (worth op (scalar_value v) s.1)
  product_opens op true m c s h k = ap (λ j. polynomial_value v (product_and m j no_products)) (same_number c 1 h) ∙ monomial_opens op m s k
  product_opens op false m c s h k = cc

  number_opens : (op : FoldOp) (f : PlainPolynomial) (s : ℕ × List PlainScalar) → made_in op f ≡ Some s → polynomial_value v f ≡ folded op s.0 (worth op (scalar_value v) s.1)
  number_opens op (product_and m c no_products) s h = product_opens op (nat_eq c 1) m c s refl h
  number_opens op no_products s h = cc
  number_opens op (product_and m c (product_and n d f)) s h = cc

  scalar_opens : (op : FoldOp) (x : PlainScalar) (s : ℕ × List PlainScalar) → scalar_made op x ≡ Some s → scalar_value v x % (2 ^ 64) ≡ folded op s.0 (worth op (scalar_value v) s.1)
  scalar_opens op (number_form f) s h = ap (λ k. k % (2 ^ 64)) (number_opens op f s h) ∙ mod-eq_of_lt (fold_small op s.0 (worth op (scalar_value v) s.1))
  scalar_opens op (truth_form f) s h = cc
  scalar_opens op (pointer_form p) s h = cc

  word_is : (n : ℕ) → scalar_value v (word_scalar n) % (2 ^ 64) ≡ n % (2 ^ 64)
  word_is zero = refl
  word_is (suc n) = ap (λ k. k % (2 ^ 64)) (omega arith)

  fold_is : (op : FoldOp) (n : ℕ) (xs : List PlainScalar) → scalar_value v (fold_scalar op n xs) % (2 ^ 64) ≡ folded op n (worth op (scalar_value v) xs)
  fold_is op n xs =
      let p : PlainPart = fold_of op n (scalars_of xs) in
      ap (λ k. k % (2 ^ 64)) (polynomial_sum v (alone p) ∙ alone_value v p ∙ ap (folded op n) (listed_worths op xs)) ∙ mod-eq_of_lt (fold_small op n (worth op (scalar_value v) xs))

  number_value : (x : PlainScalar) → polynomial_value v (number_in x) ≡ scalar_value v x
  number_value (number_form f) = refl
  number_value (truth_form f) = refl
  number_value (pointer_form p) = refl

  -- what the form is worth
  pub fold_form_value : (op : FoldOp) (f g : PlainPolynomial) → Alike (polynomial_value v (fold_form op f g)) (folded op (polynomial_value v f) (polynomial_value v g))
  fold_form_value op f g = record {
    alike = ap (λ k. k % (2 ^ 64)) (number_value (folded_scalars op (number_form f) (number_form g)))
        ∙ gives_worth op scalar_cmp scalars_exact (scalar_value v) word_scalar (fold_scalar op) word_is (fold_is op) scalar_word (scalar_made op) word_says (scalar_opens op) (number_form f) (number_form g)
        ∙ sym (mod-eq_of_lt (fold_small op (polynomial_value v f) (polynomial_value v g)));
  }
