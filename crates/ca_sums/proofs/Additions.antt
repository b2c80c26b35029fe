-- What a term adds to a map, from what its parts add.
use Rattle.std.proofs.Common.{◌≡◌, ℕ, ◌+◌, ◌*◌, ◌%◌, ◌^◌, [], ◌∷◌, ◌++◌, sym, ap, ◌∙◌, arith}
use Rattle.ca_sums.specs.Sums.{Sum, total, Adds, AddsSum}
use Rattle.ca_sums.proofs.Algebra.{alike_refl, alike_eq, alike_trans, alike_add, alike_mul, alike_mod, total_append}

one_product : (k n g : ℕ) → (k * n) * g ≡ k * (n * g + 0)
one_product k n g = omega arith

pub adds_one : {M : Type 0} (old new : Sum M) (k n : ℕ) (m : M) → Adds old new m ((k * n) % (2 ^ 64)) → AddsSum old new k ((m, n) ∷ [])
adds_one old new k n m h = record {
  added = λ f. alike_trans (h.added f) (alike_add (alike_refl (total f old)) (alike_trans (alike_mul (alike_mod (k * n)) (alike_refl (f m))) (alike_eq (one_product k n (f m)))));
}

three : (o k x y : ℕ) → (o + k * x) + k * y ≡ o + k * (x + y)
three o k x y = omega arith

pub adds_both : {M : Type 0} (a b c : Sum M) (k : ℕ) (xs ys : Sum M) → AddsSum a b k xs → AddsSum b c k ys → AddsSum a c k (xs ++ ys)
adds_both a b c k xs ys g h = record {
  added = λ f. alike_trans (h.added f) (alike_trans (alike_add (g.added f) (alike_refl (k * total f ys))) (alike_eq (three (total f a) k (total f xs) (total f ys) ∙ ap (λ z. total f a + k * z) (sym (total_append f xs ys)))));
}
