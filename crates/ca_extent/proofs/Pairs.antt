-- The order of pairs of numbers.
use Rattle.std.proofs.Common.{◌≡◌, inl, inr, ℕ, ◌<◌, ◌&&◌, Bool, true, eqb, List, get_or, Ordering, Less, Greater, suc, ap₂, subst, arith, rules, eqb-true}
use Rattle.std.specs.Cmp.{IsTotalOrder, IsEquivalence, ranks, nat_cmp_total, then_total, on_total, and_equiv, on_equiv, both_tied}
use Rattle.std.specs.Ordering.{nat_cmp, is_eq, ordering_then, eq_by_cmp, MatchOrdering}
use Rattle.std.specs.List.Sorted.{IsStrictlySortedBy}
use Rattle.std.proofs.lemmas.Cmp.{by_ranked}
use Rattle.std.proofs.lemmas.Map.Keys.{Less-from_sorted}
use Rattle.std.proofs.lemmas.Option.{slice_get_within, get_or_from_slice_get}
use Rattle.std.proofs.lemmas.Bool.{and_parts}
use Rattle.ca_parallel.specs.ExtentsOf.{Rises}
use Rattle.ca_extent.specs.clauses.Rising.{PairBefore}

abbrev pub pair_cmp : ℕ × ℕ → ℕ × ℕ → Ordering
pair_cmp x y = ordering_then (nat_cmp x.0 y.0) (nat_cmp x.1 y.1)

abbrev pub pair_eqb : ℕ × ℕ → ℕ × ℕ → Bool
pair_eqb x y = eqb x.0 y.0 && eqb x.1 y.1

number_ties : (x y : ℕ) → eqb x y ≡ is_eq (nat_cmp x y)
number_ties x y = search rules

numbers_equal : IsEquivalence eqb
numbers_equal = search rules

pub pairs_total : IsTotalOrder pair_cmp
pairs_total = then_total (on_total (λ (p : ℕ × ℕ). p.0) nat_cmp_total) (on_total (λ (p : ℕ × ℕ). p.1) nat_cmp_total)

pub pairs_tie : (x y : ℕ × ℕ) → pair_eqb x y ≡ eq_by_cmp pair_cmp x y
pairs_tie x y = both_tied _ _ (nat_cmp x.0 y.0) (nat_cmp x.1 y.1) (number_ties x.0 y.0) (number_ties x.1 y.1)

pub pairs_equal : IsEquivalence pair_eqb
pairs_equal = and_equiv (on_equiv (λ (p : ℕ × ℕ). p.0) numbers_equal) (on_equiv (λ (p : ℕ × ℕ). p.1) numbers_equal)

pub equal_pairs : (x y : ℕ × ℕ) → pair_eqb x y ≡ true → x ≡ y
equal_pairs x y e = let both = and_parts (eqb x.0 y.0) (eqb x.1 y.1) e in ap₂ (λ (a b : ℕ). (a, b)) (eqb-true x.0 y.0 both.0) (eqb-true x.1 y.1 both.1)

less_means : (x y : ℕ) → nat_cmp x y ≡ Less → x < y
less_means x y e = subst (λ o. MatchOrdering o (x < y) (x ≡ y) (y < x)) e (ranks x y)

before : (x y : ℕ × ℕ) → pair_cmp x y ≡ Less → PairBefore x y
before x y e = by_ranked (x.0 < y.0) (x.0 ≡ y.0) (y.0 < x.0) (nat_cmp x.0 y.0) (ranks x.0 y.0)
    (λ is less. inl less)
    (λ is same. inr (same, less_means x.1 y.1 (subst (λ o. ordering_then o (nat_cmp x.1 y.1) ≡ Less) is e)))
    (λ is more. absurd (never (subst (λ o. ordering_then o (nat_cmp x.1 y.1) ≡ Less) is e)))
  where
    never : Greater ≡ Less → ⊥
    never f = absurd cc

pub rising_pairs : (ps : List (ℕ × ℕ)) → IsStrictlySortedBy pair_cmp ps → Rises PairBefore ps
rising_pairs ps sorted = record {
  rises = λ n x y at next.
      let e : get_or ps n x ≡ x = get_or_from_slice_get ps n x x at in
      let f : get_or ps (suc n) x ≡ y = get_or_from_slice_get ps (suc n) y x next in
      before x y (subst (λ z. pair_cmp z y ≡ Less) e (subst (λ z. pair_cmp (get_or ps n x) z ≡ Less) f (Less-from_sorted pair_cmp ps n (suc n) x sorted (omega arith) (slice_get_within ps (suc n) y next))));
}
