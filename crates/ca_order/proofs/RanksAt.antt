-- The rank at a place of a list in memory.
use Rattle.std.proofs.Common.{◌≡◌, ℕ, zero, suc, ◌<◌, ◌≤◌, List, [], ◌∷◌, length, refl, arith, slice_index_or}
use Rattle.ca_order.specs.Alike.{rank_at}

pub inside : (ks : List ℕ) (i : ℕ) → i < length ks → slice_index_or ks i 0 ≡ rank_at ks i
inside [] i l = absurd (omega (arith, l))
inside (k ∷ ks) zero l = refl
inside (k ∷ ks) (suc i) l = inside ks i (omega (arith, l))

pub outside : (ks : List ℕ) (i : ℕ) → length ks ≤ i → 0 ≡ rank_at ks i
outside [] i l = refl
outside (k ∷ ks) zero l = absurd (omega (arith, l))
outside (k ∷ ks) (suc i) l = outside ks i (omega (arith, l))
