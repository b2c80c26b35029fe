-- Operands have one form in either order, however they are nested.
use Rattle.std.proofs.Common.{◌≡◌, ℕ, ◌-◌, ◌^◌, Bool, true, false, [], ◌∷◌, ◌++◌, Option, Some, None, Ordering, Less, Equal, Greater, sym, ap, ◌∙◌}
use Rattle.ca_sums.specs.Sums.{Sum, total, scale}
use Rattle.ca_sums.proofs.Algebra.{alike_eq, alike_sym, alike_trans}
use Rattle.ca_sums.proofs.Products.{SameTotals}
use Rattle.ca_sums.specs.Products.{product}
use Rattle.ca_folds.specs.declared.operator.FoldOp.{FoldOp}
use Rattle.ca_folds.specs.Operators.{cancels}
use Rattle.ca_folds.proofs.Order as order
use Rattle.ca_forms.specs.declared.sort.Sort.{Sort}
use Rattle.ca_forms.specs.declared.sort.Sort.TheVariants.{Long, Bool as Truth, Pointer, LongArray, BoolArray, PointerArray}
use Rattle.ca_forms.specs.declared.form.Normal.TheVariants as normal
use Rattle.ca_forms.specs.Plain.{PlainPolynomial, PlainMonomial, PlainPointer, PlainScalar, is_less, same_pointer, no_products, product_and, number_form, truth_form, pointer_form}
use Rattle.ca_forms.specs.Lists.{products_of}
use Rattle.ca_forms.specs.Compare.{scalar_cmp, polynomial_cmp, pointer_cmp}
use Rattle.ca_forms.specs.Products.{times}
use Rattle.ca_forms.specs.Rules.{alone, constancy, truth_sum, minus, negated, chosen, gathered, unless_tied, less_kinds, less_sum, zero_kind, same_numbers, same_truths, differ, unless_false, same_pointers_at, quotient_kind, modulus_kind, is_below}
use Rattle.ca_forms.specs.Arrays.{PlainSpan, one, range, span_cmp, PlainRows, PlainArray, own_items, put_item, with_sums, array_choice}
use Rattle.ca_forms.specs.ArrayRules.{row_if, joined_rows, put_row_at, put_row, is_empty, put_unless, put_sum, rest_of, last_rows, summed, added_at, weighed, put_weighed, agree, chosen_rows, chosen_if, same_index, lies_in, rows_at, products_in, selected}
use Rattle.ca_forms.specs.Folds.{scalar_word, scalar_made, word_scalar, fold_scalar, number_in, folded_scalars, fold_form}
use Rattle.ca_forms.proofs.Gathered.{gathered_same, gathered_same_totals}
use Rattle.ca_forms.proofs.Exact.{scalars_exact}
use Rattle.ca_forms.proofs.RowOrder.{gathered_itself}
use Rattle.ca_norm.specs.Terms.{PlainTerm, number, truth, null, atom, add, sub, neg, mul, divide, remainder, less, less_equal, same, not, and, or, choose, read, read_at, result, select, put, add_at, fold, sweep, sort_of}
use Rattle.ca_norm.specs.Forms.{expand, pointer_of, array_of, same_sum, scalar_at, norm}
use Rattle.ca_norm.proofs.Neat.{NeatPolynomial, NeatSum, NeatScalar, Kept, word_is, fold_no_word, fold_made, sum_neat, append_neat, scale_neat, product_neat, gathered_neat, truth_neat, minus_neat, parts, parts_kept, folded_neat, number_of_neat, gathered_again}

chosen_neat : (c a b : Sum PlainMonomial) → NeatSum c → NeatSum a → NeatSum b → NeatSum (chosen c a b)
chosen_neat c a b f g h = append_neat b (product times c (a ++ minus b)) h (product_neat c (a ++ minus b) f (append_neat a (minus b) g (minus_neat b h)))

unless_neat : (o : Ordering) (ps : Sum PlainMonomial) → NeatSum ps → NeatSum (unless_tied o ps)
unless_neat Less ps h = h
unless_neat Equal ps h = tt
unless_neat Greater ps h = h

less_neat_at : (j k : Option ℕ) (f g : PlainPolynomial) → NeatSum (less_kinds j k f g)
less_neat_at (Some m) (Some n) f g = truth_neat (is_below m n)
less_neat_at (Some m) None f g = unless_neat (polynomial_cmp f g) (alone (is_less f g)) ((tt, tt), tt)
less_neat_at None k f g = unless_neat (polynomial_cmp f g) (alone (is_less f g)) ((tt, tt), tt)

less_neat : (f g : PlainPolynomial) → NeatSum (less_sum f g)
less_neat f g = less_neat_at (constancy f) (constancy g) f g

zero_neat_at : (k : Option ℕ) (f : PlainPolynomial) → NeatSum (zero_kind k f)
zero_neat_at (Some n) f = truth_neat _
zero_neat_at None f = ((tt, tt), tt)

numbers_neat : (a b : Sum PlainMonomial) → NeatSum (same_numbers a b)
numbers_neat a b = zero_neat_at (constancy (gathered (a ++ minus b))) (gathered (a ++ minus b))

truths_neat : (a b : Sum PlainMonomial) → NeatSum a → NeatSum b → NeatSum (same_truths a b)
truths_neat a b g h =
    append_neat (truth_sum true) (minus a ++ (minus b ++ scale 2 (product times a b))) (truth_neat true) (append_neat (minus a) (minus b ++ scale 2 (product times a b)) (minus_neat a g) (append_neat (minus b) (scale 2 (product times a b)) (minus_neat b h) (scale_neat 2 (product times a b) (product_neat a b g h))))

unless_false_neat : (b : Bool) (p q : PlainPointer) → NeatSum (unless_false b (same_pointer p q))
unless_false_neat true p q = tt
unless_false_neat false p q = ((tt, tt), tt)

pointers_neat_at : (o : Ordering) (p q : PlainPointer) → NeatSum (same_pointers_at o p q)
pointers_neat_at Less p q = unless_false_neat (differ p q) p q
pointers_neat_at Equal p q = truth_neat true
pointers_neat_at Greater p q = unless_false_neat (differ p q) q p

same_neat : (s : Sort) (a b : Sum PlainMonomial) (p q : PlainPointer) → NeatSum a → NeatSum b → NeatSum (same_sum s a b p q)
same_neat Long a b p q g h = numbers_neat a b
same_neat Truth a b p q g h = truths_neat a b g h
same_neat Pointer a b p q g h = pointers_neat_at (pointer_cmp p q) p q
same_neat LongArray a b p q g h = tt
same_neat BoolArray a b p q g h = tt
same_neat PointerArray a b p q g h = tt

quotient_neat : (k : Option ℕ) (f : PlainPolynomial) (n : _) → NeatSum (quotient_kind k f n)
quotient_neat (Some m) f n = (tt, tt)
quotient_neat None f n = ((tt, tt), tt)

modulus_neat : (k : Option ℕ) (f : PlainPolynomial) (n : _) → NeatSum (modulus_kind k f n)
modulus_neat (Some m) f n = (tt, tt)
modulus_neat None f n = ((tt, tt), tt)

-- ---- arrays

abbrev NeatAny : PlainScalar → Type 0
NeatAny (number_form f) = NeatPolynomial f
NeatAny (truth_form f) = NeatPolynomial f
NeatAny (pointer_form p) = Unit {0}

abbrev NeatRows : PlainRows → Type 0
NeatRows [] = Unit {0}
NeatRows (r ∷ rs) = NeatPolynomial r.1 × NeatRows rs

abbrev NeatArray : PlainArray → Type 0
NeatArray (own_items s g n) = Unit {0}
NeatArray (put_item a i x) = NeatArray a × NeatAny x
NeatArray (with_sums a rs) = NeatArray a × NeatRows rs
NeatArray (array_choice c a b) = NeatPolynomial c × NeatArray a × NeatArray b

rest_neat : (a : PlainArray) → NeatArray a → NeatArray (rest_of a)
rest_neat (own_items s g n) h = h
rest_neat (put_item a i x) h = h
rest_neat (with_sums a rs) h = h.0
rest_neat (array_choice c a b) h = h

last_neat : (a : PlainArray) → NeatArray a → NeatRows (last_rows a)
last_neat (own_items s g n) h = tt
last_neat (put_item a i x) h = tt
last_neat (with_sums a rs) h = h.1
last_neat (array_choice c a b) h = tt

summed_neat : (a : PlainArray) (rs : PlainRows) → NeatArray a → NeatRows rs → NeatArray (summed a rs)
summed_neat a [] g h = g
summed_neat a (r ∷ rs) g h = (g, h)

row_if_neat : (i : PlainSpan) (f : PlainPolynomial) (rs : PlainRows) → NeatPolynomial f → NeatRows rs → NeatRows (row_if i f rs)
row_if_neat i no_products rs g h = h
row_if_neat i (product_and m c f) rs g h = (g, h)

put_row_neat_at : (o : Ordering) (i : PlainSpan) (f : PlainPolynomial) (r : PlainSpan × PlainPolynomial) (rs below : PlainRows) → NeatPolynomial f → NeatRows (r ∷ rs) → NeatRows below → NeatRows (put_row_at o i f r rs below)
put_row_neat_at Less i f r rs below g h b = row_if_neat i f (r ∷ rs) g h
put_row_neat_at Equal i f r rs below g h b =
    row_if_neat i (joined_rows r f) rs (gathered_neat (products_of r.1 ++ products_of f) (append_neat (products_of r.1) (products_of f) (sum_neat r.1 h.0) (sum_neat f g))) h.1
put_row_neat_at Greater i f r rs below g h b = (h.0, b)

put_row_neat : (i : PlainSpan) (f : PlainPolynomial) (rs : PlainRows) → NeatPolynomial f → NeatRows rs → NeatRows (put_row i f rs)
put_row_neat i f [] g h = row_if_neat i f [] g tt
put_row_neat i f (r ∷ rs) g h = put_row_neat_at (span_cmp i r.0) i f r rs (put_row i f rs) g h (put_row_neat i f rs g h.1)

put_unless_neat : (b : Bool) (i : PlainSpan) (f : PlainPolynomial) (rs : PlainRows) → NeatPolynomial f → NeatRows rs → NeatRows (put_unless b i f rs)
put_unless_neat true i f rs g h = h
put_unless_neat false i f rs g h = put_row_neat i f rs g h

put_sum_neat : (i : PlainSpan) (f : PlainPolynomial) (rs : PlainRows) → NeatPolynomial f → NeatRows rs → NeatRows (put_sum i f rs)
put_sum_neat i f rs g h = put_unless_neat (is_empty i) i f rs g h

weighed_neat : (k : ℕ) (c f : PlainPolynomial) → NeatPolynomial c → NeatPolynomial f → NeatPolynomial (weighed k c f)
weighed_neat k c f g h = gathered_neat (scale k (product times (products_of c) (products_of f))) (scale_neat k (product times (products_of c) (products_of f)) (product_neat (products_of c) (products_of f) (sum_neat c g) (sum_neat f h)))

put_weighed_neat : (k : ℕ) (c : PlainPolynomial) (xs rs : PlainRows) → NeatPolynomial c → NeatRows xs → NeatRows rs → NeatRows (put_weighed k c xs rs)
put_weighed_neat k c [] rs f g h = h
put_weighed_neat k c (x ∷ xs) rs f g h = put_weighed_neat k c xs (put_sum x.0 (weighed k c x.1) rs) f g.1 (put_sum_neat x.0 (weighed k c x.1) rs (weighed_neat k c x.1 f g.0) h)

added_neat : (a : PlainArray) (i : PlainSpan) (f : PlainPolynomial) → NeatArray a → NeatPolynomial f → NeatArray (added_at a i f)
added_neat a i f g h = summed_neat (rest_of a) (put_sum i f (last_rows a)) (rest_neat a g) (put_sum_neat i f (last_rows a) h (last_neat a g))

chosen_if_neat : (t : Bool) (c : PlainPolynomial) (a b : PlainArray) → NeatPolynomial c → NeatArray a → NeatArray b → NeatArray (chosen_if t c a b)
chosen_if_neat true c a b f g h =
    summed_neat (rest_of b) (chosen_rows c (last_rows a) (last_rows b)) (rest_neat b h)
    (put_weighed_neat (2 ^ 64 - 1) c (last_rows b) (put_weighed 1 c (last_rows a) (last_rows b)) f (last_neat b h) (put_weighed_neat 1 c (last_rows a) (last_rows b) f (last_neat a g) (last_neat b h)))
chosen_if_neat false c a b f g h = (f, g, h)

in_neat : (x : PlainScalar) → NeatAny x → NeatSum (products_in x)
in_neat (number_form f) h = sum_neat f h
in_neat (truth_form f) h = sum_neat f h
in_neat (pointer_form p) h = tt

index_neat : (i j : PlainPolynomial) → NeatSum (same_index i j)
index_neat i j = numbers_neat (products_of i) (products_of j)

negated_neat : (a : Sum PlainMonomial) → NeatSum a → NeatSum (negated a)
negated_neat a h = append_neat (truth_sum true) (minus a) (truth_neat true) (minus_neat a h)

lies_neat : (i : PlainSpan) (j : PlainPolynomial) → NeatSum (lies_in i j)
lies_neat (one i) j = index_neat i j
lies_neat (range f t) j = product_neat (negated (less_sum j f)) (less_sum j t) (negated_neat (less_sum j f) (less_neat j f)) (less_neat j t)

rows_at_neat : (j : PlainPolynomial) (rs : PlainRows) → NeatRows rs → NeatSum (rows_at j rs)
rows_at_neat j [] h = tt
rows_at_neat j (r ∷ rs) h =
    append_neat (product times (lies_in r.0 j) (products_of r.1)) (rows_at j rs) (product_neat (lies_in r.0 j) (products_of r.1) (lies_neat r.0 j) (sum_neat r.1 h.0)) (rows_at_neat j rs h.1)

selected_neat : (a : PlainArray) (j : PlainPolynomial) → NeatArray a → NeatSum (selected a j)
selected_neat (own_items s g n) j h = ((tt, tt), tt)
selected_neat (put_item a i x) j h = chosen_neat (same_index i j) (products_in x) (selected a j) (index_neat i j) (in_neat x h.1) (selected_neat a j h.0)
selected_neat (with_sums a rs) j h = append_neat (selected a j) (rows_at j rs) (selected_neat a j h.0) (rows_at_neat j rs h.1)
selected_neat (array_choice c a b) j h = chosen_neat (products_of c) (selected a j) (selected b j) (sum_neat c h.0) (selected_neat a j h.1) (selected_neat b j h.2)

-- ---- terms

scalar_neat : (s : Sort) (ps : Sum PlainMonomial) (p : PlainPointer) → NeatSum ps → NeatAny (scalar_at s ps p)
scalar_neat Truth ps p h = gathered_neat ps h
scalar_neat Pointer ps p h = tt
scalar_neat Long ps p h = gathered_neat ps h
scalar_neat LongArray ps p h = gathered_neat ps h
scalar_neat BoolArray ps p h = gathered_neat ps h
scalar_neat PointerArray ps p h = gathered_neat ps h

mutual
  pub term_neat : (t : PlainTerm) → NeatSum (expand t)
  term_neat (number n) = (tt, tt)
  term_neat (truth b) = truth_neat b
  term_neat null = tt
  term_neat (atom s g n) = ((tt, tt), tt)
  term_neat (add a b) = append_neat (expand a) (expand b) (term_neat a) (term_neat b)
  term_neat (sub a b) = append_neat (expand a) (minus (expand b)) (term_neat a) (minus_neat (expand b) (term_neat b))
  term_neat (neg a) = minus_neat (expand a) (term_neat a)
  term_neat (mul a b) = product_neat (expand a) (expand b) (term_neat a) (term_neat b)
  term_neat (divide a n) = quotient_neat (constancy (gathered (expand a))) (gathered (expand a)) n
  term_neat (remainder a n) = modulus_neat (constancy (gathered (expand a))) (gathered (expand a)) n
  term_neat (less a b) = less_neat (gathered (expand a)) (gathered (expand b))
  term_neat (less_equal a b) =
      append_neat (truth_sum true) (minus (less_sum (gathered (expand b)) (gathered (expand a)))) (truth_neat true) (minus_neat (less_sum (gathered (expand b)) (gathered (expand a))) (less_neat (gathered (expand b)) (gathered (expand a))))
  term_neat (same a b) = same_neat (sort_of a) (expand a) (expand b) (pointer_of a) (pointer_of b) (term_neat a) (term_neat b)
  term_neat (not a) = append_neat (truth_sum true) (minus (expand a)) (truth_neat true) (minus_neat (expand a) (term_neat a))
  term_neat (and a b) = product_neat (expand a) (expand b) (term_neat a) (term_neat b)
  term_neat (or a b) =
      let p = product_neat (expand a) (expand b) (term_neat a) (term_neat b) in
      append_neat (expand a) (expand b ++ minus (product times (expand a) (expand b))) (term_neat a) (append_neat (expand b) (minus (product times (expand a) (expand b))) (term_neat b) (minus_neat (product times (expand a) (expand b)) p))
  term_neat (choose c a b) = chosen_neat (expand c) (expand a) (expand b) (term_neat c) (term_neat a) (term_neat b)
  term_neat (read s p c f) = ((tt, tt), tt)
  term_neat (read_at s p c f i) = ((tt, tt), tt)
  term_neat (result s m p ts) = ((tt, tt), tt)
  term_neat (select a i) = selected_neat (array_of a) (gathered (expand i)) (array_neat a)
  term_neat (put a i x) = tt
  term_neat (add_at a i x) = tt
  term_neat (sweep a f t x) = tt
  term_neat (fold o a b) =
      sum_neat (fold_form o (gathered (expand a)) (gathered (expand b)))
      (number_of_neat (folded_scalars o (number_form (gathered (expand a))) (number_form (gathered (expand b)))) (folded_neat o (gathered (expand a)) (gathered (expand b)) (gathered_neat (expand a) (term_neat a)) (gathered_itself (expand a)) (gathered_neat (expand b) (term_neat b)) (gathered_itself (expand b)))).1

  array_neat : (t : PlainTerm) → NeatArray (array_of t)
  array_neat (choose c a b) = chosen_if_neat (agree (array_of a) (array_of b)) (gathered (expand c)) (array_of a) (array_of b) (gathered_neat (expand c) (term_neat c)) (array_neat a) (array_neat b)
  array_neat (put a i x) = (array_neat a, scalar_neat (sort_of x) (expand x) (pointer_of x) (term_neat x))
  array_neat (add_at a i x) = added_neat (array_of a) (one (gathered (expand i))) (gathered (expand x)) (array_neat a) (gathered_neat (expand x) (term_neat x))
  array_neat (sweep a f t x) = added_neat (array_of a) (range (gathered (expand f)) (gathered (expand t))) (gathered (expand x)) (array_neat a) (gathered_neat (expand x) (term_neat x))
  array_neat (atom s g n) = tt
  array_neat t = tt

-- ---- the law

-- the form of a number as an operand
abbrev operand : PlainTerm → PlainScalar
operand t = number_form (gathered (expand t))

operand_neat : (t : PlainTerm) → NeatScalar (operand t)
operand_neat t = (gathered_neat (expand t) (term_neat t), gathered_itself (expand t))

-- what an operator makes of two terms is what it makes of their forms
operand_of : (o : FoldOp) (a b : PlainTerm) → operand (fold o a b) ≡ folded_scalars o (operand a) (operand b)
operand_of o a b =
    let n = number_of_neat (folded_scalars o (operand a) (operand b)) (folded_neat o (gathered (expand a)) (gathered (expand b)) (operand_neat a).0 (operand_neat a).1 (operand_neat b).0 (operand_neat b).1) in
    ap number_form (gathered_again (fold_form o (gathered (expand a)) (gathered (expand b))) n.2) ∙ n.0

operand_good : (o : FoldOp) (t : PlainTerm) → Kept o (parts o (operand t))
operand_good o t = parts_kept o (gathered (expand t)) (operand_neat t).0 (operand_neat t).1

pub folds_commute : (o : FoldOp) (a b : PlainTerm) → norm (fold o a b) ≡ norm (fold o b a)
folds_commute o a b =
    ap normal.Scalar (operand_of o a b ∙ order.both_commutes o scalar_cmp scalars_exact scalar_word (scalar_made o) word_scalar (fold_scalar o) word_is (fold_no_word o) (fold_made o) (operand a) (operand b) (operand_good o a).good (operand_good o b).good ∙ sym (operand_of o b a))

pub folds_associate : (o : FoldOp) (a b c : PlainTerm) → norm (fold o (fold o a b) c) ≡ norm (fold o a (fold o b c))
folds_associate o a b c =
    ap normal.Scalar (operand_of o (fold o a b) c ∙ ap (λ x. folded_scalars o x (operand c)) (operand_of o a b)
    ∙ order.both_associates o scalar_cmp scalars_exact scalar_word (scalar_made o) word_scalar (fold_scalar o) word_is (fold_no_word o) (fold_made o) (operand a) (operand b) (operand c) (operand_good o a).good (operand_good o b).good (operand_good o c).good
    ∙ ap (folded_scalars o (operand a)) (sym (operand_of o b c)) ∙ sym (operand_of o a (fold o b c)))

-- what plain pairs need: two operands of one field change places
pub folds_swap : (o : FoldOp) (t a b : PlainTerm) → gathered (expand (fold o (fold o t a) b)) ≡ gathered (expand (fold o (fold o t b) a))
folds_swap o t a b =
    ap number_in (operand_of o (fold o t a) b ∙ ap (λ x. folded_scalars o x (operand b)) (operand_of o t a)
    ∙ order.both_swapped o scalar_cmp scalars_exact scalar_word (scalar_made o) word_scalar (fold_scalar o) word_is (fold_no_word o) (fold_made o) (operand t) (operand a) (operand b) (operand_good o t).good (operand_good o a).good (operand_good o b).good
    ∙ ap (λ x. folded_scalars o x (operand a)) (sym (operand_of o t b)) ∙ sym (operand_of o (fold o t b) a))

pub repeats_vanish : (o : FoldOp) (t a : PlainTerm) → cancels o ≡ false → norm (fold o (fold o t a) a) ≡ norm (fold o t a)
repeats_vanish o t a e =
    ap normal.Scalar (operand_of o (fold o t a) a ∙ ap (λ x. folded_scalars o x (operand a)) (operand_of o t a)
    ∙ order.both_kept o scalar_cmp scalars_exact scalar_word (scalar_made o) word_scalar (fold_scalar o) word_is (fold_no_word o) (fold_made o) (operand t) (operand a) e (operand_good o t).good (operand_good o a).good
    ∙ sym (operand_of o t a))

-- What plain pairs ask for: an operand is taken alike by terms of one form, and two operands change places.
same_gathered : (ps qs : Sum PlainMonomial) → gathered ps ≡ gathered qs → SameTotals ps qs
same_gathered ps qs e = record {
  same = λ f. alike_trans (alike_sym ((gathered_same_totals ps).same f)) (alike_trans (alike_eq (ap (λ z. total f (products_of z)) e)) ((gathered_same_totals qs).same f));
}

pub fold_changed : (o : FoldOp) (t u x : PlainTerm) → SameTotals (expand t) (expand u) → SameTotals (expand (fold o t x)) (expand (fold o u x))
fold_changed o t u x h =
    same_gathered _ _ (ap (λ z. gathered (products_of (fold_form o z (gathered (expand x))))) (gathered_same (expand t) (expand u) h))

pub folds_exchange : (o : FoldOp) (t x y : PlainTerm) → SameTotals (expand (fold o (fold o t x) y)) (expand (fold o (fold o t y) x))
folds_exchange o t x y = same_gathered _ _ (folds_swap o t x y)
