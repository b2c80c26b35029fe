-- What the test of a class tells.
use Rattle.std.proofs.Common.{inl, inr, ◌⊎◌, ◌≡◌, ℕ, zero, suc, ◌<◌, Bool, true, false, List, [], ◌∷◌, length, refl, sym, arith, subst}
use Rattle.std.specs.Prelude.{nat_lt, nat_eq, Some, Contains}
use Rattle.std.proofs.lemmas.Bool.Decides.{nat_tests}
use Rattle.ca_norm.specs.Terms.{PlainTerm}
use Rattle.ca_norm.specs.Forms.{norm}
use Rattle.ca_order.specs.declared.point.Point.{Point}
use Rattle.ca_order.specs.Rankings.{ranked}
use Rattle.ca_order.specs.Under.{under}
use Rattle.ca_order.proofs.Existing.{cons_cases}
use Rattle.ca_order.proofs.Known.{nothing}
use Rattle.ca_order.specs.Alike.{rank_at, SameOrderAt}
use Rattle.ca_order.specs.Asked.{asked}
use Rattle.ca_order.proofs.Asking.{AlikeAt, class_same}
use Rattle.ca_order.specs.clauses.Classes.{alike, same_order_at, joined_alike_at, pairs_alike, row_alike, joins_alike, one_class}
use Rattle.ca_order.proofs.Meant.{both_true as both}
use Rattle.ca_folds.proofs.Laws.{same_number as equal}
use Rattle.ca_order.proofs.Ranks.{test}

alike_same : (a b : Bool) → alike a b ≡ true → a ≡ b
alike_same true true e = refl
alike_same true false e = cc
alike_same false true e = cc
alike_same false false e = refl

pairs_told : (ks ls : List ℕ) (q : List (ℕ × ℕ)) → pairs_alike ks ls q ≡ true → AlikeAt ks ls q
pairs_told ks ls [] e i j h = absurd (nothing (i, j) h)
pairs_told ks ls (x ∷ xs) e i j h =
    let w = both (same_order_at ks ls x.0 x.1) (pairs_alike ks ls xs) e in
    by (both _ _ w.0) (cons_cases x (i, j) xs h) (λ g. pairs_told ks ls xs w.1 i j g)
  where
    by : (alike (nat_lt (rank_at ks x.0) (rank_at ks x.1)) (nat_lt (rank_at ls x.0) (rank_at ls x.1)) ≡ true) × (alike (nat_lt (rank_at ks x.1) (rank_at ks x.0)) (nat_lt (rank_at ls x.1) (rank_at ls x.0)) ≡ true) →
        (x ≡ (i, j)) ⊎ Contains xs (i, j) → (Contains xs (i, j) → SameOrderAt ks ls (Some i) (Some j)) → SameOrderAt ks ls (Some i) (Some j)
    by w (inl f) g = subst (λ (z : ℕ × ℕ). SameOrderAt ks ls (Some z.0) (Some z.1)) f (alike_same _ _ w.0, alike_same _ _ w.1)
    by w (inr h) g = g h

row_told : (ks ls : List ℕ) (i n : ℕ) → row_alike ks ls i n ≡ true → (j : ℕ) → j < n → joined_alike_at ks ls i j ≡ true
row_told ks ls i zero e j l = absurd (omega (arith, l))
row_told ks ls i (suc n) e j l = let w = both (joined_alike_at ks ls i n) (row_alike ks ls i n) e in by w (test (nat_eq j n)) (λ m. row_told ks ls i n w.1 j m)
  where
    low : nat_eq j n ≡ false → j < n
    low f = grind (arith, nat_tests)

    by : (joined_alike_at ks ls i n ≡ true) × (row_alike ks ls i n ≡ true) → (nat_eq j n ≡ true) ⊎ (nat_eq j n ≡ false) → (j < n → joined_alike_at ks ls i j ≡ true) → joined_alike_at ks ls i j ≡ true
    by w (inl f) g = subst (λ z. joined_alike_at ks ls i z ≡ true) (sym (equal j n f)) w.0
    by w (inr f) g = g (low f)

rows_told : (ks ls : List ℕ) (n m : ℕ) → joins_alike ks ls n m ≡ true → (i : ℕ) → i < m → row_alike ks ls i n ≡ true
rows_told ks ls n zero e i l = absurd (omega (arith, l))
rows_told ks ls n (suc m) e i l = let w = both (row_alike ks ls m n) (joins_alike ks ls n m) e in by w (test (nat_eq i m)) (λ k. rows_told ks ls n m w.1 i k)
  where
    low : nat_eq i m ≡ false → i < m
    low f = grind (arith, nat_tests)

    by : (row_alike ks ls m n ≡ true) × (joins_alike ks ls n m ≡ true) → (nat_eq i m ≡ true) ⊎ (nat_eq i m ≡ false) → (i < m → row_alike ks ls i n ≡ true) → row_alike ks ls i n ≡ true
    by w (inl f) g = subst (λ z. row_alike ks ls z n ≡ true) (sym (equal i m f)) w.0
    by w (inr f) g = g (low f)

-- the loop of `first_apart`: an order of a class that was found the same needs no forms
pub class_told : (ps : List Point) (ks ls : List ℕ) (t u : PlainTerm) → length ks ≡ length ps → length ls ≡ length ps →
    one_class (length ps) ks ls (asked (ranked ps ks) u (asked (ranked ps ks) t [])) ≡ true →
    norm (under (ranked ps ks) t) ≡ norm (under (ranked ps ks) u) → norm (under (ranked ps ls) t) ≡ norm (under (ranked ps ls) u)
class_told ps ks ls t u d e h same =
    let q = asked (ranked ps ks) u (asked (ranked ps ks) t []) in
    let w = both (joins_alike ks ls (length ps) (length ps)) (pairs_alike ks ls q) h in
    class_same ps ks ls t u d e
    (λ i j b c. alike_same _ _ (row_told ks ls i (length ps) (rows_told ks ls (length ps) (length ps) w.0 i b) j c))
    (pairs_told ks ls q w.1) same
