-- Demands whose sums of guards are equal maps: every test finds as many under true guards.
use Rattle.std.proofs.Common.{◌≡◌, ℕ, ◌+◌, ◌*◌, ◌^◌, ◌<◌, ◌≤◌, Bool, true, false, List, [], ◌∷◌, ◌++◌, length, ap, ◌∙◌, arith, Ordering}
use Rattle.std.specs.Prelude.{◌&&◌}
use Rattle.ca_sums.specs.Sums.{Sum, total, Alike, collect}
use Rattle.ca_sums.specs.clauses.Rows.{at_index, pair_cmp, grouped, flat}
use Rattle.ca_sums.proofs.Algebra.{alike_refl, alike_eq, alike_sym, alike_trans, alike_add, alike_mul, total_append}
use Rattle.ca_sums.proofs.Collect.{Exact, total_collect}
use Rattle.ca_sums.proofs.Rows.{pair_exact, total_grouped}
use Rattle.ca_sums.proofs.Counts.{one_if, count}

-- each key with the products of its guard
abbrev pub summed : {I M : Type 0} → List (I × Sum M) → Sum (I × M)
summed [] = []
summed (d ∷ ds) = at_index d.0 d.1 ++ summed ds

abbrev pub small : {X : Type 0} → List X → Type 0
small xs = length xs < 2 ^ 64

one_small : (b : Bool) → one_if b ≤ 1
one_small true = omega arith
one_small false = omega arith

count_small : {X : Type 0} (t : X → Bool) (xs : List X) → count t xs ≤ length xs
count_small t [] = omega arith
count_small t (x ∷ xs) = omega (arith, one_small (t x), count_small t xs)

both_bits : (a b : Bool) → one_if a * one_if b ≡ one_if (a && b)
both_bits true b = let z : 1 * one_if b ≡ one_if b = omega arith in z
both_bits false b = let z : 0 * one_if b ≡ 0 = omega arith in z

below_same : (m n : ℕ) → m < 2 ^ 64 → n < 2 ^ 64 → Alike m n → m ≡ n
below_same m n p q h = omega (arith, h.alike)

factor : (c b g t : ℕ) → c * (b * g) + b * t ≡ b * (c * g + t)
factor c b g t = grind arith

no_times : (b : ℕ) → 0 ≡ b * 0
no_times b = omega arith

module _ {I M : Type 0} (R : I → I → Ordering) (S : M → M → Ordering) (x : Exact R) (y : Exact S) (v : M → ℕ) (test : I → Bool) where
  tested : I × M → ℕ
  tested p = one_if (test p.0) * v p.1

  row_total : (i : I) (ps : Sum M) → total tested (at_index i ps) ≡ one_if (test i) * total v ps
  unfolding tested
  row_total i [] = no_times (one_if (test i))
  row_total i (p ∷ ps) = ap (λ z. p.1 * (one_if (test i) * v p.0) + z) (row_total i ps) ∙ factor p.1 (one_if (test i)) (v p.0) (total v ps)

  -- whether each guard is true
  module _ (on : I × Sum M → Bool) where
    abbrev pub Guards : List (I × Sum M) → Type 0
    Guards [] = Unit {0}
    Guards (d ∷ ds) = Alike (total v d.1) (one_if (on d)) × Guards ds

    counted : (ds : List (I × Sum M)) → Guards ds → Alike (total tested (summed ds)) (count (λ d. test d.0 && on d) ds)
    counted [] g = alike_refl 0
    counted (d ∷ ds) g =
        alike_trans (alike_eq (total_append tested (at_index d.0 d.1) (summed ds) ∙ ap (λ z. z + total tested (summed ds)) (row_total d.0 d.1)))
        (alike_add (alike_trans (alike_mul (alike_refl (one_if (test d.0))) g.0) (alike_eq (both_bits (test d.0) (on d)))) (counted ds g.1))

    map_total : (ds : List (I × Sum M)) → Alike (total tested (flat (grouped R (collect (pair_cmp R S) (summed ds))))) (total tested (summed ds))
    map_total ds = alike_trans (alike_eq (total_grouped R S x y tested (collect (pair_cmp R S) (summed ds)))) (total_collect (pair_cmp R S) (pair_exact R S x y) tested (summed ds))

    -- equal maps, as many demands
    pub same_counts : (ds es : List (I × Sum M)) → Guards ds → Guards es → small ds → small es → grouped R (collect (pair_cmp R S) (summed ds)) ≡ grouped R (collect (pair_cmp R S) (summed es)) → count (λ d. test d.0 && on d) ds ≡ count (λ d. test d.0 && on d) es
    same_counts ds es g h k l e =
        below_same _ _ (omega (arith, count_small (λ d. test d.0 && on d) ds, k)) (omega (arith, count_small (λ d. test d.0 && on d) es, l))
        (alike_trans (alike_sym (counted ds g)) (alike_trans (alike_sym (map_total ds)) (alike_trans (alike_eq (ap (λ z. total tested (flat z)) e)) (alike_trans (map_total es) (counted es h)))))
