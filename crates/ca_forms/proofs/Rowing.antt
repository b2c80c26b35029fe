-- What rows and products of sums add to a map, one by one.
use Rattle.std.proofs.Common.{◌≡◌, ℕ, ◌+◌, ◌*◌, ◌%◌, ◌^◌, [], ◌∷◌, arith}
use Rattle.ca_sums.specs.Sums.{Sum, total, Alike, Adds, AddsSum}
use Rattle.ca_sums.specs.Products.{row}
use Rattle.ca_sums.proofs.Algebra.{alike_refl, alike_eq, alike_trans, alike_add, alike_mul, alike_mod}

none : (t k : ℕ) → t ≡ t + k * 0
none t k = omega arith

pub adds_none : {M : Type 0} (a : Sum M) (k : ℕ) → AddsSum a a k []
adds_none a k = record { added = λ f. alike_eq (none (total f a) k) }

step : (t k c d g r : ℕ) → (t + (k * c) * d * g) + k * r ≡ t + k * ((c * d) * g + r)
step t k c d g r = grind arith

pub adds_row_step : {M : Type 0} (mul : M → M → M) (a b end : Sum M) (k : ℕ) (one x : M × ℕ) (xs : Sum M) → Adds a b (mul one.0 x.0) ((((k * one.1) % (2 ^ 64)) * x.1) % (2 ^ 64)) → AddsSum b end k (row mul one xs) → AddsSum a end k (row mul one (x ∷ xs))
adds_row_step mul a b end k one x xs h t = record {
  added = λ f. let g : ℕ = f (mul one.0 x.0) in
      let c : Alike (((((k * one.1) % (2 ^ 64)) * x.1) % (2 ^ 64)) * g) ((k * one.1) * x.1 * g) = alike_mul (alike_trans (alike_mod _) (alike_mul (alike_mod (k * one.1)) (alike_refl x.1))) (alike_refl g) in
      alike_trans (t.added f) (alike_trans (alike_add (alike_trans (h.added f) (alike_add (alike_refl (total f a)) c)) (alike_refl (k * total f (row mul one xs)))) (alike_eq (step (total f a) k one.1 x.1 g (total f (row mul one xs)))));
}
