-- Rows in order, and that two sums are put to them in either order.
use Rattle.std.proofs.Common.{◌≡◌, ℕ, ◌+◌, Bool, true, false, [], ◌∷◌, ◌++◌, Ordering, Less, Equal, Greater, refl, sym, ap, ap₂, ◌∙◌, arith, subst}
use Rattle.std.specs.Ordering.{ordering_reverse}
use Rattle.std.specs.List.{AllByRecursion}
use Rattle.std.specs.List.Sorted.{IsStrictlySortedBy}
use Rattle.std.specs.Map.{keys_of}
use Rattle.ca_sums.specs.Sums.{Sum, total, Alike, scale, collect}
use Rattle.ca_sums.specs.Products.{product}
use Rattle.ca_sums.specs.clauses.Rows.{Rows, at_index, flat, InRows, NoEmpty}
use Rattle.ca_sums.proofs.Algebra.{alike_refl, alike_eq, alike_sym, alike_trans, alike_add, total_append}
use Rattle.ca_sums.proofs.Collect.{Gathered, gathered_collect}
use Rattle.ca_sums.proofs.Rows.{total_at, rows_are}
use Rattle.ca_forms.specs.Plain.{PlainPolynomial, PlainMonomial, no_products, product_and}
use Rattle.ca_forms.specs.Lists.{polynomial_of, products_of}
use Rattle.ca_forms.specs.Compare.{monomial_cmp}
use Rattle.ca_forms.specs.Products.{times}
use Rattle.ca_forms.specs.Rules.{gathered}
use Rattle.ca_forms.specs.Arrays.{PlainSpan, PlainRows, span_cmp, span_inj, span_code, span_total}
use Rattle.ca_forms.specs.Trees.{tree_exact}
use Rattle.ca_sums.proofs.Collect.{Exact}
use Rattle.ca_forms.specs.ArrayRules.{row_if, joined_rows, put_row_at, put_row, is_empty, put_unless, put_sum, weighed, put_weighed}
use Rattle.ca_forms.specs.clauses.Places.{is_nothing}
use Rattle.ca_forms.proofs.Exact.{monomials_exact}
use Rattle.ca_forms.proofs.Gathered.{products_polynomial, gathered_same_totals}
use Rattle.ca_forms.proofs.Made.{polynomial_back}

pub span_same : (s r : PlainSpan) → span_cmp s r ≡ Equal → s ≡ r
span_same s r e = span_inj s r (tree_exact (span_code s) (span_code r) e)

pub spans_exact : Exact span_cmp
spans_exact = record { order = span_total; same = span_same }

-- each row with the products that it adds
abbrev as_rows : PlainRows → Rows PlainSpan PlainMonomial
as_rows [] = []
as_rows (r ∷ rs) = (r.0, products_of r.1) ∷ as_rows rs

abbrev Above : PlainSpan → PlainRows → Type 0
Above i [] = Unit {0}
Above i (r ∷ rs) = (span_cmp i r.0 ≡ Less) × Above i rs

abbrev pub IsGathered : PlainPolynomial → Type 0
IsGathered f = Gathered monomial_cmp (products_of f)

-- the indexes rise, and each row adds a gathered sum other than zero
abbrev pub AreOrdered : PlainRows → Type 0
AreOrdered [] = Unit {0}
AreOrdered (r ∷ rs) = Above r.0 rs × (is_nothing r.1 ≡ false) × IsGathered r.1 × AreOrdered rs

pub gathered_itself : (ps : Sum PlainMonomial) → IsGathered (gathered ps)
gathered_itself ps = subst (Gathered monomial_cmp) (sym (products_polynomial (collect monomial_cmp ps))) (gathered_collect monomial_cmp monomials_exact ps)

above_row_if : (k i : PlainSpan) (f : PlainPolynomial) (rs : PlainRows) → span_cmp k i ≡ Less → Above k rs → Above k (row_if i f rs)
above_row_if k i no_products rs e h = h
above_row_if k i (product_and m c f) rs e h = (e, h)

above_at : (o : Ordering) (k i : PlainSpan) (f : PlainPolynomial) (r : PlainSpan × PlainPolynomial) (rs below : PlainRows) → span_cmp k i ≡ Less → Above k (r ∷ rs) → Above k below → Above k (put_row_at o i f r rs below)
above_at Less k i f r rs below e h b = above_row_if k i f (r ∷ rs) e h
above_at Equal k i f r rs below e h b = above_row_if k i (joined_rows r f) rs e h.1
above_at Greater k i f r rs below e h b = (h.0, b)

above_put : (k i : PlainSpan) (f : PlainPolynomial) (rs : PlainRows) → span_cmp k i ≡ Less → Above k rs → Above k (put_row i f rs)
above_put k i f [] e h = above_row_if k i f [] e h
above_put k i f (r ∷ rs) e h = above_at (span_cmp i r.0) k i f r rs (put_row i f rs) e h (above_put k i f rs e h.1)

above_before : (i k : PlainSpan) (rs : PlainRows) → span_cmp i k ≡ Less → Above k rs → Above i rs
above_before i k [] e h = tt
above_before i k (r ∷ rs) e h = (span_total.trans i k r.0 e h.0, above_before i k rs e h.1)

ordered_row_if : (i : PlainSpan) (f : PlainPolynomial) (rs : PlainRows) → IsGathered f → Above i rs → AreOrdered rs → AreOrdered (row_if i f rs)
ordered_row_if i no_products rs h a g = g
ordered_row_if i (product_and m c f) rs h a g = (a, refl, h, g)

turned : (i k : PlainSpan) → span_cmp i k ≡ Greater → span_cmp k i ≡ Less
turned i k e = span_total.antisymm k i ∙ ap ordering_reverse e

ordered_at : (o : Ordering) (i : PlainSpan) (f : PlainPolynomial) (r : PlainSpan × PlainPolynomial) (rs : PlainRows) → span_cmp i r.0 ≡ o → IsGathered f → AreOrdered (r ∷ rs) → AreOrdered (put_row i f rs) → AreOrdered (put_row_at o i f r rs (put_row i f rs))
ordered_at Less i f r rs e h g b = ordered_row_if i f (r ∷ rs) h (e, above_before i r.0 rs e g.0) g
ordered_at Equal i f r rs e h g b = ordered_row_if i (joined_rows r f) rs (gathered_itself (products_of r.1 ++ products_of f)) (subst (λ z. Above z rs) (sym (span_same i r.0 e)) g.0) g.3
ordered_at Greater i f r rs e h g b = (above_put r.0 i f rs (turned i r.0 e) g.0, g.1, g.2, b)

-- a sum more leaves rows in order
pub put_ordered : (i : PlainSpan) (f : PlainPolynomial) (rs : PlainRows) → IsGathered f → AreOrdered rs → AreOrdered (put_row i f rs)
put_ordered i f [] h g = ordered_row_if i f [] h tt tt
put_ordered i f (r ∷ rs) h g = ordered_at (span_cmp i r.0) i f r rs refl h g (put_ordered i f rs h g.3)

unless_ordered : (b : Bool) (i : PlainSpan) (f : PlainPolynomial) (rs : PlainRows) → IsGathered f → AreOrdered rs → AreOrdered (put_unless b i f rs)
unless_ordered true i f rs h g = g
unless_ordered false i f rs h g = put_ordered i f rs h g

pub sum_ordered : (i : PlainSpan) (f : PlainPolynomial) (rs : PlainRows) → IsGathered f → AreOrdered rs → AreOrdered (put_sum i f rs)
sum_ordered i f rs h g = unless_ordered (is_empty i) i f rs h g

pub weighed_ordered : (n : ℕ) (c : PlainPolynomial) (xs rs : PlainRows) → AreOrdered rs → AreOrdered (put_weighed n c xs rs)
weighed_ordered n c [] rs g = g
weighed_ordered n c (x ∷ xs) rs g = weighed_ordered n c xs (put_sum x.0 (weighed n c x.1) rs) (sum_ordered x.0 (weighed n c x.1) rs (gathered_itself (scale n (product times (products_of c) (products_of x.1)))) g)

all_above : (i : PlainSpan) (rs : PlainRows) → Above i rs → AllByRecursion (λ j. span_cmp i j ≡ Less) (keys_of (as_rows rs))
all_above i [] h = tt
all_above i (r ∷ rs) h = (h.0, all_above i rs h.1)

sorted : (rs : PlainRows) → AreOrdered rs → IsStrictlySortedBy span_cmp (keys_of (as_rows rs))
unfolding IsStrictlySortedBy
sorted [] g = tt
sorted (r ∷ rs) g = (all_above r.0 rs g.0, sorted rs g.3)

none_empty : (rs : PlainRows) → AreOrdered rs → NoEmpty monomial_cmp (as_rows rs)
none_empty [] g = tt
none_empty ((i, no_products) ∷ rs) g = absurd (let e : true ≡ false = g.1 in cc)
none_empty ((i, product_and m c f) ∷ rs) g = (g.2.0, g.2.1, none_empty rs g.3)

in_rows : (rs : PlainRows) → AreOrdered rs → InRows span_cmp monomial_cmp (as_rows rs)
in_rows rs g = (sorted rs g, none_empty rs g)

none_first : (x : ℕ) → x ≡ 0 + x
none_first x = omega arith

module _ (F : PlainSpan × PlainMonomial → ℕ) where
  abbrev sum_of : PlainRows → ℕ
  sum_of rs = total F (flat (as_rows rs))

  abbrev sum_at : PlainSpan → PlainPolynomial → ℕ
  sum_at i f = total F (at_index i (products_of f))

  row_if_total : (i : PlainSpan) (f : PlainPolynomial) (rs : PlainRows) → sum_of (row_if i f rs) ≡ sum_at i f + sum_of rs
  row_if_total i no_products rs = none_first (sum_of rs)
  row_if_total i (product_and m c f) rs = total_append F (at_index i (products_of (product_and m c f))) (flat (as_rows rs))

  joined_total : (i : PlainSpan) (r : PlainSpan × PlainPolynomial) (f : PlainPolynomial) → Alike (sum_at i (joined_rows r f)) (sum_at i r.1 + sum_at i f)
  joined_total i r f =
      alike_trans (alike_eq (total_at F i (products_of (joined_rows r f)))) (alike_trans ((gathered_same_totals (products_of r.1 ++ products_of f)).same (λ m. F (i, m)))
      (alike_eq (total_append (λ m. F (i, m)) (products_of r.1) (products_of f) ∙ ap₂ (λ x y. x + y) (sym (total_at F i (products_of r.1))) (sym (total_at F i (products_of f))))))

  exchanged : (x y t : ℕ) → (x + y) + t ≡ y + (x + t)
  exchanged x y t = omega arith

  passed : (x y t : ℕ) → x + (y + t) ≡ y + (x + t)
  passed x y t = omega arith

  put_at_total : (o : Ordering) (i : PlainSpan) (f : PlainPolynomial) (r : PlainSpan × PlainPolynomial) (rs below : PlainRows) → span_cmp i r.0 ≡ o → Alike (sum_of below) (sum_at i f + sum_of rs) → Alike (sum_of (put_row_at o i f r rs below)) (sum_at i f + (sum_at r.0 r.1 + sum_of rs))
  put_at_total Less i f r rs below e h = alike_eq (row_if_total i f (r ∷ rs) ∙ ap (λ z. sum_at i f + z) (total_append F (at_index r.0 (products_of r.1)) (flat (as_rows rs))))
  put_at_total Equal i f r rs below e h =
      alike_trans (alike_eq (row_if_total i (joined_rows r f) rs)) (alike_trans (alike_add (joined_total i r f) (alike_refl (sum_of rs))) (alike_eq (exchanged (sum_at i r.1) (sum_at i f) (sum_of rs) ∙ ap (λ z. sum_at i f + (sum_at z r.1 + sum_of rs)) (span_same i r.0 e))))
  put_at_total Greater i f r rs below e h =
      alike_trans (alike_eq (total_append F (at_index r.0 (products_of r.1)) (flat (as_rows below)))) (alike_trans (alike_add (alike_refl (sum_at r.0 r.1)) h) (alike_eq (passed (sum_at r.0 r.1) (sum_at i f) (sum_of rs))))

  put_total : (i : PlainSpan) (f : PlainPolynomial) (rs : PlainRows) → Alike (sum_of (put_row i f rs)) (sum_at i f + sum_of rs)
  put_total i f [] = alike_eq (row_if_total i f [])
  put_total i f (r ∷ rs) =
      alike_trans (put_at_total (span_cmp i r.0) i f r rs (put_row i f rs) refl (put_total i f rs)) (alike_eq (ap (λ z. sum_at i f + z) (sym (total_append F (at_index r.0 (products_of r.1)) (flat (as_rows rs))))))

  both_totals : (i : PlainSpan) (f : PlainPolynomial) (j : PlainSpan) (g : PlainPolynomial) (rs : PlainRows) → Alike (sum_of (put_row j g (put_row i f rs))) (sum_of (put_row i f (put_row j g rs)))
  both_totals i f j g rs =
      alike_trans (put_total j g (put_row i f rs)) (alike_trans (alike_add (alike_refl (sum_at j g)) (put_total i f rs)) (alike_trans (alike_eq (passed (sum_at j g) (sum_at i f) (sum_of rs)))
      (alike_sym (alike_trans (put_total i f (put_row j g rs)) (alike_add (alike_refl (sum_at i f)) (put_total j g rs))))))

abbrev back : Rows PlainSpan PlainMonomial → PlainRows
back [] = []
back (r ∷ rs) = (r.0, polynomial_of r.1) ∷ back rs

rows_back : (rs : PlainRows) → back (as_rows rs) ≡ rs
rows_back [] = refl
rows_back (r ∷ rs) = ap₂ (λ f xs. (r.0, f) ∷ xs) (polynomial_back r.1) (rows_back rs)

-- two sums are put in either order
pub puts_commute : (i : PlainSpan) (f : PlainPolynomial) (j : PlainSpan) (g : PlainPolynomial) (rs : PlainRows) → IsGathered f → IsGathered g → AreOrdered rs → put_row j g (put_row i f rs) ≡ put_row i f (put_row j g rs)
puts_commute i f j g rs h k o =
    let one : PlainRows = put_row j g (put_row i f rs) in
    let other : PlainRows = put_row i f (put_row j g rs) in
    let first = rows_are span_cmp monomial_cmp spans_exact monomials_exact (as_rows one) (flat (as_rows other)) (in_rows one (put_ordered j g (put_row i f rs) k (put_ordered i f rs h o))) (λ F. both_totals F i f j g rs) in
    let second = rows_are span_cmp monomial_cmp spans_exact monomials_exact (as_rows other) (flat (as_rows other)) (in_rows other (put_ordered i f (put_row j g rs) h (put_ordered j g rs k o))) (λ F. alike_refl (total F (flat (as_rows other)))) in
    sym (rows_back one) ∙ ap back (first ∙ sym second) ∙ rows_back other

unless_commute : (a b : Bool) (i : PlainSpan) (f : PlainPolynomial) (j : PlainSpan) (g : PlainPolynomial) (rs : PlainRows) → IsGathered f → IsGathered g → AreOrdered rs → put_unless b j g (put_unless a i f rs) ≡ put_unless a i f (put_unless b j g rs)
unless_commute true b i f j g rs h k o = refl
unless_commute false true i f j g rs h k o = refl
unless_commute false false i f j g rs h k o = puts_commute i f j g rs h k o

-- so are two sums, whether something lies in their ranges or not
pub sums_commute : (i : PlainSpan) (f : PlainPolynomial) (j : PlainSpan) (g : PlainPolynomial) (rs : PlainRows) → IsGathered f → IsGathered g → AreOrdered rs → put_sum j g (put_sum i f rs) ≡ put_sum i f (put_sum j g rs)
sums_commute i f j g rs h k o = unless_commute (is_empty i) (is_empty j) i f j g rs h k o
