-- Gathering keeps the total of a sum, and two gathered sums with the same coefficients are equal.
use Rattle.std.proofs.Common.{◌≡◌, ℕ, zero, suc, ◌+◌, ◌*◌, ◌%◌, ◌^◌, ◌<◌, [], ◌∷◌, refl, sym, ap, ap₂, ◌∙◌, arith, Ordering, Less, Equal, Greater, Some, None, unwrap_or, cond, is_eq, mod-lt, pow_pos}
use Rattle.std.specs.Cmp.{IsTotalOrder}
use Rattle.std.specs.Ordering.{ordering_reverse}
use Rattle.std.specs.List.{AllByRecursion}
use Rattle.std.specs.List.Sorted.{IsStrictlySortedBy}
use Rattle.std.specs.Map.{keys_of, lookup}
use Rattle.std.specs.BTreeMap.{is_at}
use Rattle.std.proofs.lemmas.Cmp.{tied_itself}
use Rattle.ca_sums.specs.Sums.{Sum, total, is_tied, Alike, put_if, insert_at, insert, collect, NoZero}
use Rattle.ca_sums.proofs.Algebra.{alike_refl, alike_eq, alike_sym, alike_trans, alike_add, alike_mul, alike_mod, alike_cancel}

-- the monomials of the sum are above m
abbrev pub Above : {M : Type 0} → (M → M → Ordering) → M → Sum M → Type 0
Above R m ps = AllByRecursion (λ n. R m n ≡ Less) (keys_of ps)

-- gathered: the monomials rise, and each coefficient is a word other than zero
abbrev pub Gathered : {M : Type 0} → (M → M → Ordering) → Sum M → Type 0
Gathered R ps = IsStrictlySortedBy R (keys_of ps) × NoZero ps

-- a total order that ties only equal monomials
pub record Exact {M : Type 0} (R : M → M → Ordering) : Type 0 where
  pub order : IsTotalOrder R
  pub same : (m n : M) → R m n ≡ Equal → m ≡ n

total_put : {M : Type 0} (f : M → ℕ) (m : M) (c : ℕ) (ps : Sum M) → total f (put_if m c ps) ≡ c * f m + total f ps
total_put f m zero ps = grind arith
total_put f m (suc c) ps = refl

regroup : (c d a b t : ℕ) → b ≡ a → (c + d) * a + t ≡ c * b + (d * a + t)
regroup c d a b t e = rw e (omega arith)

module _ {M : Type 0} (R : M → M → Ordering) (x : Exact R) where
  total_insert_at : (f : M → ℕ) (o : Ordering) (m : M) (c : ℕ) (p : M × ℕ) (ps below : Sum M) → R m p.0 ≡ o → Alike (total f below) (c * f m + total f ps) → Alike (total f (insert_at o m c p ps below)) (c * f m + (p.1 * f p.0 + total f ps))
  total_insert_at f Less m c p ps below e h = alike_eq (total_put f m c (p ∷ ps))
  total_insert_at f Equal m c p ps below e h =
      let k : Alike (((c + p.1) % (2 ^ 64)) * f p.0) ((c + p.1) * f p.0) = alike_mul (alike_mod (c + p.1)) (alike_refl (f p.0)) in
      alike_trans (alike_eq (total_put f p.0 ((c + p.1) % (2 ^ 64)) ps))
      (alike_trans (alike_add k (alike_refl (total f ps))) (alike_eq (regroup c p.1 (f p.0) (f m) (total f ps) (ap f (x.same m p.0 e)))))
  total_insert_at f Greater m c p ps below e h =
      alike_trans (alike_add (alike_refl (p.1 * f p.0)) h) (alike_eq (omega arith))

  total_insert : (f : M → ℕ) (m : M) (c : ℕ) (ps : Sum M) → Alike (total f (insert R m c ps)) (c * f m + total f ps)
  total_insert f m c [] = alike_eq (total_put f m c [])
  total_insert f m c (p ∷ ps) =
      total_insert_at f (R m p.0) m c p ps (insert R m c ps) refl (total_insert f m c ps)

  -- gathering keeps every total
  pub total_collect : (f : M → ℕ) (ps : Sum M) → Alike (total f (collect R ps)) (total f ps)
  total_collect f [] = alike_refl 0
  total_collect f (p ∷ ps) =
      alike_trans (total_insert f p.0 (p.1 % (2 ^ 64)) (collect R ps)) (alike_add (alike_mul (alike_mod p.1) (alike_refl (f p.0))) (total_collect f ps))

  above_put : (k m : M) (c : ℕ) (ps : Sum M) → R k m ≡ Less → Above R k ps → Above R k (put_if m c ps)
  above_put k m zero ps e h = h
  above_put k m (suc c) ps e h = (e, h)

  above_insert_at : (k : M) (o : Ordering) (m : M) (c : ℕ) (p : M × ℕ) (ps below : Sum M) → R k m ≡ Less → Above R k (p ∷ ps) → Above R k below → Above R k (insert_at o m c p ps below)
  above_insert_at k Less m c p ps below e h b = above_put k m c (p ∷ ps) e h
  above_insert_at k Equal m c p ps below e h b = above_put k p.0 ((c + p.1) % (2 ^ 64)) ps h.0 h.1
  above_insert_at k Greater m c p ps below e h b = (h.0, b)

  above_insert : (k m : M) (c : ℕ) (ps : Sum M) → R k m ≡ Less → Above R k ps → Above R k (insert R m c ps)
  above_insert k m c [] e h = above_put k m c [] e h
  above_insert k m c (p ∷ ps) e h =
      above_insert_at k (R m p.0) m c p ps (insert R m c ps) e h (above_insert k m c ps e h.1)

  above_trans : (k m : M) (ps : Sum M) → R k m ≡ Less → Above R m ps → Above R k ps
  above_trans k m [] e h = tt
  above_trans k m (p ∷ ps) e h = (x.order.trans k m p.0 e h.0, above_trans k m ps e h.1)

  gathered_put : (m : M) (c : ℕ) (ps : Sum M) → c < 2 ^ 64 → Above R m ps → Gathered R ps → Gathered R (put_if m c ps)
  unfolding IsStrictlySortedBy
  gathered_put m zero ps h a s = s
  gathered_put m (suc c) ps h a s = ((a, s.0), (omega arith, h, s.1))

  greater_turned : (m n : M) → R m n ≡ Greater → R n m ≡ Less
  greater_turned m n e = x.order.antisymm n m ∙ ap ordering_reverse e

  gathered_insert_at : (o : Ordering) (m : M) (c : ℕ) (p : M × ℕ) (ps below : Sum M) → R m p.0 ≡ o → c < 2 ^ 64 → Gathered R (p ∷ ps) → Gathered R below → (R p.0 m ≡ Less → Above R p.0 below) → Gathered R (insert_at o m c p ps below)
  unfolding IsStrictlySortedBy
  gathered_insert_at Less m c p ps below e h s b u = gathered_put m c (p ∷ ps) h (e, above_trans m p.0 ps e s.0.0) s
  gathered_insert_at Equal m c p ps below e h s b u =
      gathered_put p.0 ((c + p.1) % (2 ^ 64)) ps (mod-lt (c + p.1) (pow_pos 64)) s.0.0 (s.0.1, s.1.2)
  gathered_insert_at Greater m c p ps below e h s b u = ((u (greater_turned m p.0 e), b.0), (s.1.0, s.1.1, b.1))

  gathered_insert : (m : M) (c : ℕ) (ps : Sum M) → c < 2 ^ 64 → Gathered R ps → Gathered R (insert R m c ps)
  unfolding IsStrictlySortedBy
  gathered_insert m c [] h s = gathered_put m c [] h tt (tt, tt)
  gathered_insert m c (p ∷ ps) h s =
      gathered_insert_at (R m p.0) m c p ps (insert R m c ps) refl h s (gathered_insert m c ps h (s.0.1, s.1.2)) (λ e. above_insert p.0 m c ps e s.0.0)

  pub gathered_collect : (ps : Sum M) → Gathered R (collect R ps)
  unfolding IsStrictlySortedBy
  gathered_collect [] = (tt, tt)
  gathered_collect (p ∷ ps) = gathered_insert p.0 (p.1 % (2 ^ 64)) (collect R ps) (mod-lt p.1 (pow_pos 64)) (gathered_collect ps)

  -- a monomial below all others has the coefficient 0
  below_all : (m : M) (ps : Sum M) → Above R m ps → total (λ n. is_tied (R m n)) ps ≡ 0
  below_all m [] h = refl
  below_all m (p ∷ ps) h = rw h.0 (rw (below_all m ps h.1) (omega arith))

  tied : (m : M) → is_tied (R m m) ≡ 1
  tied m = ap is_tied (tied_itself x.order m)

  first_at : (p : M × ℕ) (ps : Sum M) → Gathered R (p ∷ ps) → total (λ n. is_tied (R p.0 n)) (p ∷ ps) ≡ p.1
  unfolding IsStrictlySortedBy
  first_at p ps s = rw (tied p.0, below_all p.0 ps s.0.0) (omega arith)

  small : (c : ℕ) → 0 < c → c < 2 ^ 64 → Alike c 0 → ⊥
  small c p q h = omega (arith, h.alike)

  only_empty : (p : M × ℕ) (ps : Sum M) → Gathered R (p ∷ ps) → Alike (total (λ n. is_tied (R p.0 n)) (p ∷ ps)) 0 → ⊥
  unfolding IsStrictlySortedBy
  only_empty p ps s h = let a : total (λ n. is_tied (R p.0 n)) (p ∷ ps) ≡ p.1 = first_at p ps s in small p.1 s.1.0 s.1.1 (alike_trans (alike_eq (sym a)) h)

  same_small : (c d : ℕ) → c < 2 ^ 64 → d < 2 ^ 64 → Alike c d → c ≡ d
  same_small c d p q h = omega (arith, h.alike)

  unfoldable pub SameCoefficients : Sum M → Sum M → Type 0
  SameCoefficients ps qs = (m : M) → Alike (total (λ n. is_tied (R m n)) ps) (total (λ n. is_tied (R m n)) qs)

  same_at : (o : Ordering) (p q : M × ℕ) (ps qs : Sum M) → R p.0 q.0 ≡ o → Gathered R (p ∷ ps) → Gathered R (q ∷ qs) → SameCoefficients (p ∷ ps) (q ∷ qs) → (SameCoefficients ps qs → ps ≡ qs) → p ∷ ps ≡ q ∷ qs
  unfolding SameCoefficients IsStrictlySortedBy
  same_at Less p q ps qs e s u h tail =
      absurd (only_empty p ps s (alike_trans (h p.0) (alike_eq (below_all p.0 (q ∷ qs) (e, above_trans p.0 q.0 qs e u.0.0)))))
  same_at Equal p q ps qs e s u h tail =
      let m : p.0 ≡ q.0 = x.same p.0 q.0 e in
      let a : total (λ n. is_tied (R p.0 n)) (p ∷ ps) ≡ p.1 = first_at p ps s in
      let b : total (λ n. is_tied (R q.0 n)) (q ∷ qs) ≡ q.1 = first_at q qs u in
      let b' : total (λ n. is_tied (R p.0 n)) (q ∷ qs) ≡ q.1 = ap (λ k. total (λ n. is_tied (R k n)) (q ∷ qs)) m ∙ b in
      let c : p.1 ≡ q.1 = same_small p.1 q.1 s.1.1 u.1.1 (alike_trans (alike_eq (sym a)) (alike_trans (h p.0) (alike_eq b'))) in
      let both : p ≡ q = ap₂ (λ i j. (i, j)) m c in
      let rest : SameCoefficients ps qs = λ k. alike_cancel (p.1 * is_tied (R k p.0)) _ _ (alike_trans (h k) (alike_eq (ap (λ r. r.1 * is_tied (R k r.0) + total (λ n. is_tied (R k n)) qs) (sym both)))) in
      ap₂ (λ i j. i ∷ j) both (tail rest)
  same_at Greater p q ps qs e s u h tail =
      let f : R q.0 p.0 ≡ Less = greater_turned p.0 q.0 e in
      absurd (only_empty q qs u (alike_trans (alike_sym (h q.0)) (alike_eq (below_all q.0 (p ∷ ps) (f, above_trans q.0 p.0 ps f s.0.0)))))

  -- two gathered sums with the same coefficients are equal
  pub gathered_same : (ps qs : Sum M) → Gathered R ps → Gathered R qs → SameCoefficients ps qs → ps ≡ qs
  unfolding SameCoefficients IsStrictlySortedBy
  gathered_same [] [] s u h = refl
  gathered_same [] (q ∷ qs) s u h = absurd (only_empty q qs u (alike_sym (h q.0)))
  gathered_same (p ∷ ps) [] s u h = absurd (only_empty p ps s (h p.0))
  gathered_same (p ∷ ps) (q ∷ qs) s u h = same_at (R p.0 q.0) p q ps qs refl s u h (gathered_same ps qs (s.0.1, s.1.2) (u.0.1, u.1.2))

  -- sums with the same coefficients come to one gathered sum
  pub collect_same : (ps qs : Sum M) → SameCoefficients ps qs → collect R ps ≡ collect R qs
  unfolding SameCoefficients
  collect_same ps qs h = gathered_same (collect R ps) (collect R qs) (gathered_collect ps) (gathered_collect qs) (λ m. alike_trans (total_collect _ ps) (alike_trans (h m) (alike_sym (total_collect _ qs))))

  pub none_above : (m k : M) (ps : Sum M) → R m k ≡ Less → Above R k ps → lookup (is_at (R m)) ps ≡ None
  none_above m k [] e h = refl
  none_above m k (p ∷ ps) e h =
      let l : R m p.0 ≡ Less = x.order.trans m k p.0 e h.0 in rw l (none_above m k ps e h.1)

  found_at : (m : M) (o : Ordering) (p : M × ℕ) (ps : Sum M) → R m p.0 ≡ o → Above R p.0 ps → total (λ n. is_tied (R m n)) ps ≡ unwrap_or (lookup (is_at (R m)) ps) 0 → p.1 * is_tied o + total (λ n. is_tied (R m n)) ps ≡ unwrap_or (cond (is_eq o) (Some p.1) (lookup (is_at (R m)) ps)) 0
  found_at m Less p ps e h i = omega (arith, i)
  found_at m Equal p ps e h i = rw (x.same m p.0 e, below_all p.0 ps h) (omega arith)
  found_at m Greater p ps e h i = omega (arith, i)

  -- a gathered sum holds the coefficient of a monomial in one place
  pub found : (m : M) (ps : Sum M) → IsStrictlySortedBy R (keys_of ps) → total (λ n. is_tied (R m n)) ps ≡ unwrap_or (lookup (is_at (R m)) ps) 0
  unfolding IsStrictlySortedBy
  found m [] s = refl
  found m (p ∷ ps) s = found_at m (R m p.0) p ps refl s.0 (found m ps s.1)
