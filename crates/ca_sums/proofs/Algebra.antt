-- Equality modulo 2^64, and what appending and scaling do to the total of a sum.
use Rattle.std.proofs.Common.{◌≡◌, ℕ, ◌+◌, ◌*◌, ◌%◌, ◌^◌, [], ◌∷◌, ◌++◌, refl, sym, ap, ap₂, ◌∙◌, arith, add_assoc, mul_assoc, mul-add, mul-zero, zero-add}
use Rattle.std.proofs.lemmas.Nat.{mul-mod}
use Rattle.std.proofs.Math.Nat.{add-mod-mod, mod-add-mod, mod-mod}
use Rattle.ca_sums.specs.Sums.{Sum, total, Alike, scale}

pub alike_refl : (a : ℕ) → Alike a a
alike_refl a = record { alike = refl }

pub alike_eq : {a b : ℕ} → a ≡ b → Alike a b
alike_eq e = record { alike = ap (λ x. x % (2 ^ 64)) e }

pub alike_sym : {a b : ℕ} → Alike a b → Alike b a
alike_sym h = record { alike = sym h.alike }

pub alike_trans : {a b c : ℕ} → Alike a b → Alike b c → Alike a c
alike_trans h k = record { alike = h.alike ∙ k.alike }

add_mod : (w a c : ℕ) → (a % w + c % w) % w ≡ (a + c) % w
add_mod w a c = add-mod-mod (a % w) c w ∙ mod-add-mod a w c

pub alike_add : {a b c d : ℕ} → Alike a b → Alike c d → Alike (a + c) (b + d)
alike_add {a} {b} {c} {d} h k =
    record { alike = sym (add_mod (2 ^ 64) a c) ∙ ap₂ (λ x y. (x + y) % (2 ^ 64)) h.alike k.alike ∙ add_mod (2 ^ 64) b d }

pub alike_mul : {a b c d : ℕ} → Alike a b → Alike c d → Alike (a * c) (b * d)
alike_mul {a} {b} {c} {d} h k =
    record { alike = mul-mod a c (2 ^ 64) ∙ ap₂ (λ x y. (x * y) % (2 ^ 64)) h.alike k.alike ∙ sym (mul-mod b d (2 ^ 64)) }

pub alike_mod : (a : ℕ) → Alike (a % (2 ^ 64)) a
alike_mod a = record { alike = mod-mod a (2 ^ 64) }

pub alike_cancel : (a c d : ℕ) → Alike (a + c) (a + d) → Alike c d
alike_cancel a c d h = record { alike = omega (arith, h.alike) }

pub total_append : {M : Type 0} (f : M → ℕ) (xs ys : Sum M) → total f (xs ++ ys) ≡ total f xs + total f ys
total_append f [] ys = sym (zero-add _)
total_append f (x ∷ xs) ys = ap (λ n. x.1 * f x.0 + n) (total_append f xs ys) ∙ sym (add_assoc (x.1 * f x.0) (total f xs) (total f ys))

pub total_scale : {M : Type 0} (f : M → ℕ) (k : ℕ) (xs : Sum M) → total f (scale k xs) ≡ k * total f xs
total_scale f k [] = sym (mul-zero k)
total_scale f k (x ∷ xs) = ap₂ (λ a b. a + b) (mul_assoc k x.1 (f x.0)) (total_scale f k xs) ∙ sym (mul-add k (x.1 * f x.0) (total f xs))
