-- What an insertion into an ordered map, and a removal, do to the sum of its entries.
use Rattle.std.proofs.Common.{◌≡◌, ℕ, ◌+◌, ◌*◌, ◌%◌, ◌^◌, ◌<◌, [], ◌∷◌, refl, sym, arith, Ordering, Less, Equal, Greater, Some, unwrap_or, cond, is_eq}
use Rattle.std.specs.Ordering.{match_ordering}
use Rattle.std.specs.List.{AllByRecursion}
use Rattle.std.specs.List.Sorted.{IsStrictlySortedBy}
use Rattle.std.specs.Map.{keys_of, lookup, remove_entry}
use Rattle.std.specs.BTreeMap.{insert_entry, is_at}
use Rattle.ca_sums.specs.Sums.{Sum, total, Alike, collect, NoZero, Adds, AddsSum}
use Rattle.ca_sums.proofs.Algebra.{alike_refl, alike_eq, alike_sym, alike_trans, alike_add, alike_mul, alike_mod, alike_cancel}
use Rattle.ca_sums.proofs.Collect.{Exact, SameCoefficients, gathered_same, gathered_collect, total_collect, none_above}

swapped : (a b c : ℕ) → b + a ≡ c → a + b ≡ c
swapped a b c e = omega (arith, e)

swapped_none : (a b c : ℕ) → b + a ≡ c → a + b ≡ c + 0
swapped_none a b c e = omega (arith, e)

nothing : (g : ℕ) → 0 ≡ 0 * g
nothing g = omega arith

once : (t : ℕ) → 0 + 1 * t ≡ t
once t = omega arith

grouped : (t o c g : ℕ) → t + (o + c) * g ≡ o * g + (t + c * g)
grouped t o c g = omega arith

module _ {M : Type 0} (R : M → M → Ordering) (x : Exact R) where
  put_at : (f : M → ℕ) (m : M) (s : ℕ) (o : Ordering) (p : M × ℕ) (es : Sum M) → R m p.0 ≡ o → AllByRecursion (λ y. R p.0 y ≡ Less) (keys_of es) → total f (insert_entry R es m s) + unwrap_or (lookup (is_at (R m)) es) 0 * f m ≡ total f es + s * f m → total f (match_ordering o ((m, s) ∷ p ∷ es) ((p.0, s) ∷ es) (p ∷ insert_entry R es m s)) + unwrap_or (cond (is_eq o) (Some p.1) (lookup (is_at (R m)) es)) 0 * f m ≡ total f (p ∷ es) + s * f m
  put_at f m s Less p es e h i = rw (none_above R x m p.0 es e h) (omega arith)
  put_at f m s Equal p es e h i = rw (x.same m p.0 e) (omega arith)
  put_at f m s Greater p es e h i = omega (arith, i)

  put_total : (f : M → ℕ) (m : M) (s : ℕ) (es : Sum M) → IsStrictlySortedBy R (keys_of es) → total f (insert_entry R es m s) + unwrap_or (lookup (is_at (R m)) es) 0 * f m ≡ total f es + s * f m
  unfolding IsStrictlySortedBy
  put_total f m s [] h = omega arith
  put_total f m s (p ∷ es) h = put_at f m s (R m p.0) p es refl h.0 (put_total f m s es h.1)

  take_at : (f : M → ℕ) (m : M) (o : Ordering) (p : M × ℕ) (es : Sum M) → R m p.0 ≡ o → total f (remove_entry (is_at (R m)) es) + unwrap_or (lookup (is_at (R m)) es) 0 * f m ≡ total f es → total f (cond (is_eq o) es (p ∷ remove_entry (is_at (R m)) es)) + unwrap_or (cond (is_eq o) (Some p.1) (lookup (is_at (R m)) es)) 0 * f m ≡ total f (p ∷ es)
  take_at f m Less p es e i = omega (arith, i)
  take_at f m Equal p es e i = rw (x.same m p.0 e) (omega arith)
  take_at f m Greater p es e i = omega (arith, i)

  take_total : (f : M → ℕ) (m : M) (es : Sum M) → total f (remove_entry (is_at (R m)) es) + unwrap_or (lookup (is_at (R m)) es) 0 * f m ≡ total f es
  take_total f m [] = omega arith
  take_total f m (p ∷ es) = take_at f m (R m p.0) p es refl (take_total f m es)

  pub no_zero_put : (m : M) (s : ℕ) (es : Sum M) → 0 < s → s < 2 ^ 64 → NoZero es → NoZero (insert_entry R es m s)
  no_zero_put m s [] h l n = (h, l, tt)
  no_zero_put m s (p ∷ es) h l n = elim (R m p.0) as (λ o. NoZero (match_ordering o ((m, s) ∷ p ∷ es) ((p.0, s) ∷ es) (p ∷ insert_entry R es m s))) [ Less ↦ (h, l, n) | Equal ↦ (h, l, n.2) | Greater ↦ (n.0, n.1, no_zero_put m s es h l n.2) ]

  pub no_zero_take : (m : M) (es : Sum M) → NoZero es → NoZero (remove_entry (is_at (R m)) es)
  no_zero_take m [] n = tt
  no_zero_take m (p ∷ es) n = elim (R m p.0) as (λ o. NoZero (cond (is_eq o) es (p ∷ remove_entry (is_at (R m)) es))) [ Less ↦ (n.0, n.1, no_zero_take m es n.2) | Equal ↦ n.2 | Greater ↦ (n.0, n.1, no_zero_take m es n.2) ]

  pub put_adds : (m : M) (c s : ℕ) (es : Sum M) → IsStrictlySortedBy R (keys_of es) → s ≡ (unwrap_or (lookup (is_at (R m)) es) 0 + c) % (2 ^ 64) → Adds es (insert_entry R es m s) m c
  put_adds m c s es h e = record {
    added = λ f. let old : ℕ = unwrap_or (lookup (is_at (R m)) es) 0 in
        let k : Alike (s * f m) ((old + c) * f m) = alike_mul (alike_trans (alike_eq e) (alike_mod (old + c))) (alike_refl (f m)) in
        alike_cancel (old * f m) _ _ (alike_trans (alike_eq (swapped (old * f m) _ _ (put_total f m s es h))) (alike_trans (alike_add (alike_refl (total f es)) k) (alike_eq (grouped (total f es) old c (f m)))));
  }

  pub take_adds : (m : M) (c : ℕ) (es : Sum M) → (unwrap_or (lookup (is_at (R m)) es) 0 + c) % (2 ^ 64) ≡ 0 → Adds es (remove_entry (is_at (R m)) es) m c
  take_adds m c es e = record {
    added = λ f. let old : ℕ = unwrap_or (lookup (is_at (R m)) es) 0 in
        let k : Alike 0 ((old + c) * f m) = alike_trans (alike_eq (nothing (f m))) (alike_mul {a = 0} {c = f m} (alike_trans (alike_eq (sym e)) (alike_mod (old + c))) (alike_refl (f m))) in
        alike_cancel (old * f m) _ _ (alike_trans (alike_eq (swapped_none (old * f m) _ _ (take_total f m es))) (alike_trans (alike_add (alike_refl (total f es)) k) (alike_eq (grouped (total f es) old c (f m)))));
  }

  -- a map that began empty, with a sum added to it, is that sum gathered
  pub gathered_is : (es : Sum M) (ps : Sum M) → IsStrictlySortedBy R (keys_of es) → NoZero es → AddsSum [] es 1 ps → es ≡ collect R ps
  unfolding SameCoefficients
  gathered_is es ps h n a = gathered_same R x es (collect R ps) (h, n) (gathered_collect R x ps) (λ m. alike_trans (a.added _) (alike_trans (alike_eq (once (total _ ps))) (alike_sym (total_collect R x _ ps))))
