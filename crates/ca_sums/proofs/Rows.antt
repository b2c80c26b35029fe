-- Rows and the sums over pairs that they stand for.
use Rattle.std.proofs.Common.{◌≡◌, ℕ, ◌+◌, ◌*◌, [], ◌∷◌, ◌++◌, refl, sym, ap, ap₂, ◌∙◌, Ordering, Less, Equal, Greater}
use Rattle.std.specs.Cmp.{IsTotalOrder}
use Rattle.std.specs.Ordering.{ordering_reverse, ordering_then}
use Rattle.std.specs.List.{AllByRecursion}
use Rattle.std.specs.List.Sorted.{IsStrictlySortedBy}
use Rattle.std.specs.Map.{keys_of}
use Rattle.std.proofs.lemmas.Cmp.{tied_itself}
use Rattle.ca_sums.specs.Sums.{Sum, total, Alike, NoZero, collect}
use Rattle.ca_sums.specs.clauses.Rows.{Rows, at_index, flat, pair_cmp, joins, before, grouped, InRows}
use Rattle.ca_sums.proofs.Algebra.{alike_sym, alike_trans}
use Rattle.ca_sums.proofs.Collect.{Exact, Gathered, Above, SameCoefficients, gathered_same, gathered_collect, total_collect}

pub then_equal : (o p : Ordering) → ordering_then o p ≡ Equal → (o ≡ Equal) × (p ≡ Equal)
then_equal Less p e = cc
then_equal Equal p e = (refl, e)
then_equal Greater p e = cc

then_back : (o p q r : Ordering) → o ≡ ordering_reverse q → p ≡ ordering_reverse r → ordering_then o p ≡ ordering_reverse (ordering_then q r)
then_back o p Less r e f = rw e refl
then_back o p Equal r e f = rw e f
then_back o p Greater r e f = rw e refl

-- the total of rows: each index with its own total
pub total_at : {I M : Type 0} (f : I × M → ℕ) (i : I) (ps : Sum M) → total f (at_index i ps) ≡ total (λ m. f (i, m)) ps
total_at f i [] = refl
total_at f i (p ∷ ps) = ap (λ k. p.1 * f (i, p.0) + k) (total_at f i ps)

module _ {I M : Type 0} (R : I → I → Ordering) (S : M → M → Ordering) (x : Exact R) (y : Exact S) where
  trans_at : (a b c : I × M) (o q : Ordering) → R a.0 b.0 ≡ o → R b.0 c.0 ≡ q → ordering_then o (S a.1 b.1) ≡ Less → ordering_then q (S b.1 c.1) ≡ Less → ordering_then (R a.0 c.0) (S a.1 c.1) ≡ Less
  trans_at a b c Less Less e f h k = let l : R a.0 c.0 ≡ Less = x.order.trans a.0 b.0 c.0 e f in rw l refl
  trans_at a b c Less Equal e f h k = let l : R a.0 c.0 ≡ Less = ap (R a.0) (sym (x.same b.0 c.0 f)) ∙ e in rw l refl
  trans_at a b c Equal Less e f h k = let l : R a.0 c.0 ≡ Less = ap (λ i. R i c.0) (x.same a.0 b.0 e) ∙ f in rw l refl
  trans_at a b c Equal Equal e f h k =
      let l : R a.0 c.0 ≡ Equal = ap (λ i. R i c.0) (x.same a.0 b.0 e) ∙ f in
      rw l (y.order.trans a.1 b.1 c.1 h k)
  trans_at a b c Greater q e f h k = cc
  trans_at a b c o Greater e f h k = cc

  both_same : (a b : I × M) → pair_cmp R S a b ≡ Equal → a ≡ b
  both_same a b e =
      let t : (R a.0 b.0 ≡ Equal) × (S a.1 b.1 ≡ Equal) = then_equal (R a.0 b.0) (S a.1 b.1) e in
      ap₂ (λ i m. (i, m)) (x.same a.0 b.0 t.0) (y.same a.1 b.1 t.1)

  pub pair_total : IsTotalOrder (pair_cmp R S)
  pair_total = record {
    antisymm = λ a b. then_back (R a.0 b.0) (S a.1 b.1) (R b.0 a.0) (S b.1 a.1) (x.order.antisymm a.0 b.0) (y.order.antisymm a.1 b.1);
    trans = λ a b c e f. trans_at a b c (R a.0 b.0) (R b.0 c.0) refl refl e f;
    congr = λ a b c e. ap (λ z. pair_cmp R S z c) (both_same a b e);
  }

  pub pair_exact : Exact (pair_cmp R S)
  pair_exact = record { order = pair_total; same = both_same }

  itself : (i : I) → R i i ≡ Equal
  itself i = tied_itself x.order i

  joins_equal : (o : Ordering) (i : I) (m : M) (c : ℕ) (r : I × Sum M) (rs : Rows I M) → o ≡ Equal → joins o i m c r rs ≡ (i, (m, c) ∷ r.1) ∷ rs
  joins_equal o i m c r rs e = rw e refl

  joins_less : (o : Ordering) (i : I) (m : M) (c : ℕ) (r : I × Sum M) (rs : Rows I M) → o ≡ Less → joins o i m c r rs ≡ (i, (m, c) ∷ []) ∷ r ∷ rs
  joins_less o i m c r rs e = rw e refl

  -- a row that is not empty, before rows of higher indexes
  starts_row : (i : I) (p : M × ℕ) (rs : Rows I M) → AllByRecursion (λ j. R i j ≡ Less) (keys_of rs) → before R i p.0 p.1 rs ≡ (i, p ∷ []) ∷ rs
  starts_row i p [] h = refl
  starts_row i p (r ∷ rs) h = joins_less (R i r.0) i p.0 p.1 r rs h.0

  group_row : (i : I) (p : M × ℕ) (ps : Sum M) (rs : Rows I M) → AllByRecursion (λ j. R i j ≡ Less) (keys_of rs) → grouped R (flat rs) ≡ rs → grouped R (at_index i (p ∷ ps) ++ flat rs) ≡ (i, p ∷ ps) ∷ rs
  group_row i p [] rs h e = ap (before R i p.0 p.1) e ∙ starts_row i p rs h
  group_row i p (q ∷ ps) rs h e = ap (before R i p.0 p.1) (group_row i q ps rs h e) ∙ joins_equal (R i i) i p.0 p.1 (i, q ∷ ps) rs (itself i)

  -- rows in order are those that their own products make
  pub group_flat : (rs : Rows I M) → InRows R S rs → grouped R (flat rs) ≡ rs
  unfolding IsStrictlySortedBy
  group_flat [] h = refl
  group_flat ((i, []) ∷ rs) h = absurd h.1
  group_flat ((i, p ∷ ps) ∷ rs) h = group_row i p ps rs h.0.0 (group_flat rs (h.0.1, h.1.2))

  joins_total : (f : I × M → ℕ) (o : Ordering) (i : I) (m : M) (c : ℕ) (r : I × Sum M) (rs : Rows I M) → R i r.0 ≡ o → total f (flat (joins o i m c r rs)) ≡ c * f (i, m) + total f (flat (r ∷ rs))
  joins_total f Less i m c r rs e = refl
  joins_total f Equal i m c r rs e = ap (λ j. c * f (i, m) + total f (at_index j r.1 ++ flat rs)) (x.same i r.0 e)
  joins_total f Greater i m c r rs e = refl

  before_total : (f : I × M → ℕ) (i : I) (m : M) (c : ℕ) (rs : Rows I M) → total f (flat (before R i m c rs)) ≡ c * f (i, m) + total f (flat rs)
  before_total f i m c [] = refl
  before_total f i m c (r ∷ rs) = joins_total f (R i r.0) i m c r rs refl

  -- grouping changes no total
  pub total_grouped : (f : I × M → ℕ) (ps : Sum (I × M)) → total f (flat (grouped R ps)) ≡ total f ps
  total_grouped f [] = refl
  total_grouped f (p ∷ ps) = before_total f p.0.0 p.0.1 p.1 (grouped R ps) ∙ ap (λ k. p.1 * f (p.0.0, p.0.1) + k) (total_grouped f ps)

  above_row : (i j : I) (m : M) (ps : Sum M) (rest : Sum (I × M)) → R i j ≡ Less → Above (pair_cmp R S) (i, m) rest → Above (pair_cmp R S) (i, m) (at_index j ps ++ rest)
  above_row i j m [] rest e h = h
  above_row i j m (p ∷ ps) rest e h = (rw e refl, above_row i j m ps rest e h)

  above_rows : (i : I) (m : M) (rs : Rows I M) → AllByRecursion (λ j. R i j ≡ Less) (keys_of rs) → Above (pair_cmp R S) (i, m) (flat rs)
  above_rows i m [] h = tt
  above_rows i m (r ∷ rs) h = above_row i r.0 m r.1 (flat rs) h.0 (above_rows i m rs h.1)

  above_same : (i : I) (m : M) (ps : Sum M) (rest : Sum (I × M)) → Above S m ps → Above (pair_cmp R S) (i, m) rest → Above (pair_cmp R S) (i, m) (at_index i ps ++ rest)
  above_same i m [] rest h k = k
  above_same i m (p ∷ ps) rest h k = (rw (itself i) h.0, above_same i m ps rest h.1 k)

  gathered_row : (i : I) (ps : Sum M) (rs : Rows I M) → IsStrictlySortedBy S (keys_of ps) → NoZero ps → AllByRecursion (λ j. R i j ≡ Less) (keys_of rs) → Gathered (pair_cmp R S) (flat rs) → Gathered (pair_cmp R S) (at_index i ps ++ flat rs)
  unfolding IsStrictlySortedBy
  gathered_row i [] rs s n h g = g
  gathered_row i (p ∷ ps) rs s n h g =
      let rest = gathered_row i ps rs s.1 n.2 h g in
      ((above_same i p.0 ps (flat rs) s.0 (above_rows i p.0 rs h), rest.0), (n.0, n.1, rest.1))

  -- their products are gathered
  pub gathered_flat : (rs : Rows I M) → InRows R S rs → Gathered (pair_cmp R S) (flat rs)
  unfolding IsStrictlySortedBy
  gathered_flat [] h = (tt, tt)
  gathered_flat ((i, []) ∷ rs) h = absurd h.1
  gathered_flat ((i, p ∷ ps) ∷ rs) h = gathered_row i (p ∷ ps) rs h.1.0 h.1.1 h.0.0 (gathered_flat rs (h.0.1, h.1.2))

  -- rows in order whose products come to those of a sum are the sum's rows
  pub rows_are : (rs : Rows I M) (ps : Sum (I × M)) → InRows R S rs → ((f : I × M → ℕ) → Alike (total f (flat rs)) (total f ps)) → rs ≡ grouped R (collect (pair_cmp R S) ps)
  unfolding SameCoefficients
  rows_are rs ps h t =
      sym (group_flat rs h) ∙ ap (grouped R) (gathered_same (pair_cmp R S) pair_exact (flat rs) (collect (pair_cmp R S) ps) (gathered_flat rs h) (gathered_collect (pair_cmp R S) pair_exact ps)
      (λ m. alike_trans (t _) (alike_sym (total_collect (pair_cmp R S) pair_exact _ ps))))
