-- Sums in which what operators were made of is in order, and what keeps them so.
use Rattle.std.proofs.Common.{◌≡◌, ℕ, zero, suc, ◌^◌, ◌<◌, Bool, true, false, cond, List, [], ◌∷◌, ◌++◌, Option, Some, None, Ordering, Less, Equal, Greater, refl, sym, ap, ◌∙◌, arith, subst, eqb-true}
use Rattle.std.proofs.lemmas.Option.{same_Some}
use Rattle.std.specs.Prelude.{nat_eq}
use Rattle.std.specs.Ordering.{match_ordering}
use Rattle.std.specs.List.Sorted.{IsStrictlySortedBy}
use Rattle.ca_sums.specs.Sums.{Sum, scale, put_if, insert_at, insert, collect}
use Rattle.ca_sums.specs.Products.{row, product}
use Rattle.ca_folds.specs.declared.operator.FoldOp.{FoldOp}
use Rattle.ca_folds.specs.declared.operator.FoldOp.TheVariants.{Max}
use Rattle.ca_folds.specs.Operators.{fold_number, fold_inj, folded, neutral, is_absorbing, cancels}
use Rattle.ca_folds.specs.Operands.{parts_of, together, settled, formed}
use Rattle.ca_folds.specs.Operands as folds
use Rattle.ca_folds.proofs.Laws.{neutral_small, same_number}
use Rattle.ca_folds.proofs.Order.{Each}
use Rattle.ca_folds.proofs.Order as order
use Rattle.ca_forms.specs.Plain.{PlainPart, PlainPolynomial, PlainMonomial, PlainScalar, PlainScalars, variable, is_less, is_zero, same_pointer, quotient, modulus, field_of, item_of, result_of, own_item, fold_of, no_powers, power_and, no_products, product_and, number_form, truth_form, pointer_form, no_scalars, scalar_and}
use Rattle.ca_forms.specs.Lists.{products_of, polynomial_of, powers_of, monomial_of, scalars_of}
use Rattle.ca_forms.specs.Compare.{part_cmp, monomial_cmp, scalar_cmp}
use Rattle.ca_forms.specs.Products.{joined, merge_in, merge, times}
use Rattle.ca_forms.specs.Rules.{constancy, gathered, minus, truth_sum}
use Rattle.ca_forms.specs.Folds.{items_of, part_made, monomial_made, made_in, scalar_word, scalar_made, word_scalar, fold_scalar, number_in, folded_scalars}
use Rattle.ca_sums.specs.Sums.{is_tied}
use Rattle.ca_sums.proofs.Collect.{Gathered, SameCoefficients, gathered_same, gathered_collect, total_collect}
use Rattle.ca_forms.proofs.Exact.{scalars_exact, monomials_exact}
use Rattle.ca_forms.proofs.RowOrder.{IsGathered}
use Rattle.ca_forms.proofs.Made.{items_back, polynomial_back}
use Rattle.ca_norm.proofs.Foldings.{some_same}

itself : (o : FoldOp) → nat_eq (fold_number o) (fold_number o) ≡ true
itself Max = refl
itself other = refl

pub word_is : (n : ℕ) → n < 2 ^ 64 → scalar_word (word_scalar n) ≡ Some n
word_is zero f = refl
word_is (suc n) f = refl

pub fold_no_word : (o : FoldOp) (n : ℕ) (xs : List PlainScalar) → scalar_word (fold_scalar o n xs) ≡ None
fold_no_word o n xs = refl

pub fold_made : (o : FoldOp) (n : ℕ) (xs : List PlainScalar) → scalar_made o (fold_scalar o n xs) ≡ Some (n, xs)
fold_made o n xs = ap (λ b. cond b (Some (n, items_of (scalars_of xs))) None) (itself o) ∙ ap (λ ys. Some (n, ys)) (items_back xs)

abbrev pub Good : FoldOp → ℕ × List PlainScalar → Type 0
Good o = order.Good o scalar_cmp scalars_exact scalar_word (scalar_made o) word_scalar (fold_scalar o) word_is (fold_no_word o) (fold_made o)

abbrev mutual
  pub NeatPart : PlainPart → Type 0
  NeatPart (fold_of o w xs) = Good o (w, items_of xs) × NeatScalars xs
  NeatPart (variable s g n) = Unit {0}
  NeatPart (is_less f g) = Unit {0}
  NeatPart (is_zero f) = Unit {0}
  NeatPart (same_pointer p q) = Unit {0}
  NeatPart (quotient f n) = Unit {0}
  NeatPart (modulus f n) = Unit {0}
  NeatPart (field_of s p c f) = Unit {0}
  NeatPart (item_of s p c f i) = Unit {0}
  NeatPart (result_of s m p xs) = Unit {0}
  NeatPart (own_item s g n i) = Unit {0}

  pub NeatMonomial : PlainMonomial → Type 0
  NeatMonomial no_powers = Unit {0}
  NeatMonomial (power_and p e m) = NeatPart p × NeatMonomial m

  pub NeatPolynomial : PlainPolynomial → Type 0
  NeatPolynomial no_products = Unit {0}
  NeatPolynomial (product_and m c f) = NeatMonomial m × NeatPolynomial f

  pub NeatScalar : PlainScalar → Type 0
  NeatScalar (number_form f) = NeatPolynomial f × IsGathered f
  NeatScalar (truth_form f) = ⊥
  NeatScalar (pointer_form p) = ⊥

  pub NeatScalars : PlainScalars → Type 0
  NeatScalars no_scalars = Unit {0}
  NeatScalars (scalar_and x xs) = NeatScalar x × NeatScalars xs

abbrev pub NeatSum : Sum PlainMonomial → Type 0
NeatSum [] = Unit {0}
NeatSum (p ∷ ps) = NeatMonomial p.0 × NeatSum ps

abbrev NeatPowers : List (PlainPart × ℕ) → Type 0
NeatPowers [] = Unit {0}
NeatPowers (p ∷ ps) = NeatPart p.0 × NeatPowers ps

powers_neat : (m : PlainMonomial) → NeatMonomial m → NeatPowers (powers_of m)
powers_neat no_powers h = tt
powers_neat (power_and p e m) h = (h.0, powers_neat m h.1)

monomial_neat : (ps : List (PlainPart × ℕ)) → NeatPowers ps → NeatMonomial (monomial_of ps)
monomial_neat [] h = tt
monomial_neat (p ∷ ps) h = (h.0, monomial_neat ps h.1)

pub sum_neat : (f : PlainPolynomial) → NeatPolynomial f → NeatSum (products_of f)
sum_neat no_products h = tt
sum_neat (product_and m c f) h = (h.0, sum_neat f h.1)

pub polynomial_neat : (ps : Sum PlainMonomial) → NeatSum ps → NeatPolynomial (polynomial_of ps)
polynomial_neat [] h = tt
polynomial_neat (p ∷ ps) h = (h.0, polynomial_neat ps h.1)

merged_at : (o : Ordering) (x y : PlainPart × ℕ) (first same later : List (PlainPart × ℕ)) → NeatPart x.0 → NeatPart y.0 → NeatPowers first → NeatPowers same → NeatPowers later → NeatPowers (match_ordering o (x ∷ first) (joined x y ∷ same) (y ∷ later))
merged_at Less x y first same later p q f g h = (p, f)
merged_at Equal x y first same later p q f g h = (p, g)
merged_at Greater x y first same later p q f g h = (q, h)

merged_in : (x : PlainPart × ℕ) (rest : List (PlainPart × ℕ) → List (PlainPart × ℕ)) (ys : List (PlainPart × ℕ)) → NeatPart x.0 → NeatPowers ys → ((zs : List (PlainPart × ℕ)) → NeatPowers zs → NeatPowers (rest zs)) → NeatPowers (merge_in x rest ys)
merged_in x rest [] p h r = (p, r [] tt)
merged_in x rest (y ∷ ys) p h r = merged_at (part_cmp x.0 y.0) x y (rest (y ∷ ys)) (rest ys) (merge_in x rest ys) p h.0 (r (y ∷ ys) h) (r ys h.1) (merged_in x rest ys p h.1 r)

merged : (xs ys : List (PlainPart × ℕ)) → NeatPowers xs → NeatPowers ys → NeatPowers (merge xs ys)
merged [] ys g h = h
merged (x ∷ xs) ys g h = merged_in x (merge xs) ys g.0 h (λ zs. merged xs zs g.1)

times_neat : (m n : PlainMonomial) → NeatMonomial m → NeatMonomial n → NeatMonomial (times m n)
times_neat m n g h = monomial_neat _ (merged (powers_of m) (powers_of n) (powers_neat m g) (powers_neat n h))

pub append_neat : (ps qs : Sum PlainMonomial) → NeatSum ps → NeatSum qs → NeatSum (ps ++ qs)
append_neat [] qs g h = h
append_neat (p ∷ ps) qs g h = (g.0, append_neat ps qs g.1 h)

pub scale_neat : (k : ℕ) (ps : Sum PlainMonomial) → NeatSum ps → NeatSum (scale k ps)
scale_neat k [] h = tt
scale_neat k (p ∷ ps) h = (h.0, scale_neat k ps h.1)

row_neat : (p : PlainMonomial × ℕ) (qs : Sum PlainMonomial) → NeatMonomial p.0 → NeatSum qs → NeatSum (row times p qs)
row_neat p [] g h = tt
row_neat p (q ∷ qs) g h = (times_neat p.0 q.0 g h.0, row_neat p qs g h.1)

pub product_neat : (ps qs : Sum PlainMonomial) → NeatSum ps → NeatSum qs → NeatSum (product times ps qs)
product_neat [] qs g h = tt
product_neat (p ∷ ps) qs g h = append_neat (row times p qs) (product times ps qs) (row_neat p qs g.0 h) (product_neat ps qs g.1 h)

put_neat : (m : PlainMonomial) (c : ℕ) (ps : Sum PlainMonomial) → NeatMonomial m → NeatSum ps → NeatSum (put_if m c ps)
put_neat m zero ps g h = h
put_neat m (suc c) ps g h = (g, h)

insert_neat_at : (o : Ordering) (m : PlainMonomial) (c : ℕ) (p : PlainMonomial × ℕ) (ps below : Sum PlainMonomial) → NeatMonomial m → NeatSum (p ∷ ps) → NeatSum below → NeatSum (insert_at o m c p ps below)
insert_neat_at Less m c p ps below g h b = put_neat m c (p ∷ ps) g h
insert_neat_at Equal m c p ps below g h b = put_neat p.0 _ ps h.0 h.1
insert_neat_at Greater m c p ps below g h b = (h.0, b)

insert_neat : (m : PlainMonomial) (c : ℕ) (ps : Sum PlainMonomial) → NeatMonomial m → NeatSum ps → NeatSum (insert monomial_cmp m c ps)
insert_neat m c [] g h = put_neat m c [] g h
insert_neat m c (p ∷ ps) g h = insert_neat_at (monomial_cmp m p.0) m c p ps (insert monomial_cmp m c ps) g h (insert_neat m c ps g h.1)

collect_neat : (ps : Sum PlainMonomial) → NeatSum ps → NeatSum (collect monomial_cmp ps)
collect_neat [] h = tt
collect_neat (p ∷ ps) h = insert_neat p.0 _ (collect monomial_cmp ps) h.0 (collect_neat ps h.1)

pub gathered_neat : (ps : Sum PlainMonomial) → NeatSum ps → NeatPolynomial (gathered ps)
gathered_neat ps h = polynomial_neat (collect monomial_cmp ps) (collect_neat ps h)

pub truth_neat : (b : Bool) → NeatSum (truth_sum b)
truth_neat true = (tt, tt)
truth_neat false = tt

pub minus_neat : (ps : Sum PlainMonomial) → NeatSum ps → NeatSum (minus ps)
minus_neat ps h = scale_neat _ ps h

-- ---- operands

each_neat : (xs : PlainScalars) → NeatScalars xs → Each NeatScalar (items_of xs)
each_neat no_scalars h = tt
each_neat (scalar_and x xs) h = (h.0, each_neat xs h.1)

all_neat : (xs : List PlainScalar) → Each NeatScalar xs → NeatScalars (scalars_of xs)
all_neat [] h = tt
all_neat (x ∷ xs) h = (h.0, all_neat xs h.1)

-- the parts of an operand in order
pub record Kept (o : FoldOp) (s : ℕ × List PlainScalar) : Type 0 where
  pub good : Good o s
  pub neat : Each NeatScalar s.1

part_kept_at : (op : FoldOp) (b : Bool) (o : FoldOp) (w : ℕ) (xs : PlainScalars) (s : ℕ × List PlainScalar) → nat_eq (fold_number op) (fold_number o) ≡ b → cond b (Some (w, items_of xs)) None ≡ Some s → NeatPart (fold_of o w xs) → Kept op s
part_kept_at op true o w xs s e h g =
    let is : o ≡ op = sym (fold_inj op o (eqb-true (fold_number op) (fold_number o) e)) in
    let t : (w, items_of xs) ≡ s = same_Some (w, items_of xs) s h in
    subst (Kept op) t (subst (λ p. Kept p (w, items_of xs)) is (record { good = g.0; neat = each_neat xs g.1 }))
part_kept_at op false o w xs s e h g = cc

part_kept : (op : FoldOp) (p : PlainPart) (s : ℕ × List PlainScalar) → part_made op p ≡ Some s → NeatPart p → Kept op s
part_kept op (fold_of o w xs) s h g = part_kept_at op (nat_eq (fold_number op) (fold_number o)) o w xs s refl h g
part_kept op (variable t g n) s h k = cc
part_kept op (is_less f g) s h k = cc
part_kept op (is_zero f) s h k = cc
part_kept op (same_pointer p q) s h k = cc
part_kept op (quotient f n) s h k = cc
part_kept op (modulus f n) s h k = cc
part_kept op (field_of t p c f) s h k = cc
part_kept op (item_of t p c f i) s h k = cc
part_kept op (result_of t m p xs) s h k = cc
part_kept op (own_item t g n i) s h k = cc

power_kept : (op : FoldOp) (b : Bool) (p : PlainPart) (s : ℕ × List PlainScalar) → cond b (part_made op p) None ≡ Some s → NeatPart p → Kept op s
power_kept op true p s h g = part_kept op p s h g
power_kept op false p s h g = cc

monomial_kept : (op : FoldOp) (m : PlainMonomial) (s : ℕ × List PlainScalar) → monomial_made op m ≡ Some s → NeatMonomial m → Kept op s
monomial_kept op (power_and p e no_powers) s h g = power_kept op (nat_eq e 1) p s h g.0
monomial_kept op no_powers s h g = cc
monomial_kept op (power_and p e (power_and q d m)) s h g = cc

product_kept : (op : FoldOp) (b : Bool) (m : PlainMonomial) (s : ℕ × List PlainScalar) → cond b (monomial_made op m) None ≡ Some s → NeatMonomial m → Kept op s
product_kept op true m s h g = monomial_kept op m s h g
product_kept op false m s h g = cc

made_kept : (op : FoldOp) (f : PlainPolynomial) (s : ℕ × List PlainScalar) → made_in op f ≡ Some s → NeatPolynomial f → Kept op s
made_kept op (product_and m c no_products) s h g = product_kept op (nat_eq c 1) m s h g.0
made_kept op no_products s h g = cc
made_kept op (product_and m c (product_and n d f)) s h g = cc

word_small : (f : PlainPolynomial) (n : ℕ) → IsGathered f → constancy f ≡ Some n → n < 2 ^ 64
word_small no_products n g e = let x : 0 ≡ n = same_Some 0 n e in omega (arith, x)
word_small (product_and no_powers c no_products) n g e = let x : c ≡ n = same_Some c n e in subst (λ k. k < 2 ^ 64) x g.1.1
word_small (product_and no_powers c (product_and m d f)) n g e = cc
word_small (product_and (power_and p e m) c f) n g h = cc

abbrev pub parts : FoldOp → PlainScalar → ℕ × List PlainScalar
parts o = order.parts o scalar_cmp scalars_exact scalar_word (scalar_made o) word_scalar (fold_scalar o) word_is (fold_no_word o) (fold_made o)

parts_kept_at : (o : FoldOp) (k : Option ℕ) (j : Option (ℕ × List PlainScalar)) (f : PlainPolynomial) → constancy f ≡ k → made_in o f ≡ j → NeatPolynomial f → IsGathered f → Kept o (parts_of o k j (number_form f))
parts_kept_at o (Some n) j f e h g i = record { good = record { small = word_small f n i e; rising = tt; leaves = tt }; neat = tt }
parts_kept_at o None (Some s) f e h g i = made_kept o f s h g
parts_kept_at o None None f e h g i = record { good = record { small = neutral_small o; rising = (tt, tt); leaves = ((e, h), tt) }; neat = ((g, i), tt) }

pub parts_kept : (o : FoldOp) (f : PlainPolynomial) → NeatPolynomial f → IsGathered f → Kept o (parts o (number_form f))
parts_kept o f g i = parts_kept_at o (constancy f) (made_in o f) f refl refl g i

gathered_none : Gathered monomial_cmp []
unfolding IsStrictlySortedBy
gathered_none = (tt, tt)

gathered_one : (m : PlainMonomial) (c : ℕ) → 0 < c → c < 2 ^ 64 → Gathered monomial_cmp ((m, c) ∷ [])
unfolding IsStrictlySortedBy
gathered_one m c h g = ((tt, tt), (h, g, tt))

word_neat : (n : ℕ) → n < 2 ^ 64 → NeatScalar (word_scalar n)
word_neat zero h = (tt, gathered_none)
word_neat (suc n) h = ((tt, tt), gathered_one no_powers (suc n) (omega arith) h)

made_neat : (o : FoldOp) (n : ℕ) (xs : List PlainScalar) → Kept o (n, xs) → NeatScalar (fold_scalar o n xs)
made_neat o n xs k =
    ((((subst (λ ys. Good o (n, ys)) (sym (items_back xs)) k.good, all_neat xs k.neat), tt), tt), gathered_one (power_and (fold_of o n (scalars_of xs)) 1 no_powers) 1 (omega arith) (omega arith))

alone_neat : (o : FoldOp) (b : Bool) (n : ℕ) (x : PlainScalar) → Kept o (n, x ∷ []) → NeatScalar (cond b x (fold_scalar o n (x ∷ [])))
alone_neat o true n x k = k.neat.0
alone_neat o false n x k = made_neat o n (x ∷ []) k

formed_neat : (o : FoldOp) (n : ℕ) (xs : List PlainScalar) → Kept o (n, xs) → NeatScalar (formed o word_scalar (fold_scalar o) n xs)
formed_neat o n [] k = word_neat n k.good.small
formed_neat o n (x ∷ []) k = alone_neat o (nat_eq n (neutral o)) n x k
formed_neat o n (x ∷ (y ∷ ys)) k = made_neat o n (x ∷ y ∷ ys) k

settled_neat_at : (a : Bool) (xs : List PlainScalar) → Each NeatScalar xs → Each NeatScalar (cond a [] xs)
settled_neat_at true xs h = tt
settled_neat_at false xs h = h

both_kept : (o : FoldOp) (s t : ℕ × List PlainScalar) → Kept o s → Kept o t → Kept o (settled o (together o scalar_cmp s t))
both_kept o s t g h = record {
  good = order.good_settled o scalar_cmp scalars_exact scalar_word (scalar_made o) word_scalar (fold_scalar o) word_is (fold_no_word o) (fold_made o) (together o scalar_cmp s t)
      (order.good_together o scalar_cmp scalars_exact scalar_word (scalar_made o) word_scalar (fold_scalar o) word_is (fold_no_word o) (fold_made o) s t g.good h.good);
  neat = settled_neat_at (is_absorbing o (folded o s.0 t.0)) (folds.merge (cancels o) scalar_cmp s.1 t.1) (order.each_merge NeatScalar (cancels o) scalar_cmp s.1 t.1 g.neat h.neat);
}

pub folded_neat : (o : FoldOp) (f g : PlainPolynomial) → NeatPolynomial f → IsGathered f → NeatPolynomial g → IsGathered g → NeatScalar (folded_scalars o (number_form f) (number_form g))
folded_neat o f g a b c d =
    let k = both_kept o (parts o (number_form f)) (parts o (number_form g)) (parts_kept o f a b) (parts_kept o g c d) in
    formed_neat o _ _ k

pub number_of_neat : (x : PlainScalar) → NeatScalar x → (number_form (number_in x) ≡ x) × NeatPolynomial (number_in x) × IsGathered (number_in x)
number_of_neat (number_form f) h = (refl, h.0, h.1)
number_of_neat (truth_form f) h = absurd h
number_of_neat (pointer_form p) h = absurd h

collect_again : (ps : Sum PlainMonomial) → Gathered monomial_cmp ps → collect monomial_cmp ps ≡ ps
unfolding SameCoefficients
collect_again ps g = gathered_same monomial_cmp monomials_exact (collect monomial_cmp ps) ps (gathered_collect monomial_cmp monomials_exact ps) g (λ m. total_collect monomial_cmp monomials_exact (λ n. is_tied (monomial_cmp m n)) ps)

-- a gathered polynomial is not gathered to another
pub gathered_again : (f : PlainPolynomial) → IsGathered f → gathered (products_of f) ≡ f
gathered_again f g = ap polynomial_of (collect_again (products_of f) g) ∙ polynomial_back f
