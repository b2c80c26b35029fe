-- The word that an integer leaves in 64 bits, and what sums, differences and products do to it.
use Rattle.std.proofs.Common.{rules, ◌≡◌, ℕ, ◌+◌, ◌-◌, ◌*◌, ◌%◌, ◌^◌, ◌<◌, ℤ, pos, ◌+ℤ◌, ◌-ℤ◌, ◌*ℤ◌, neg_ℤ, FitsSigned, sym, ap, ap₂, ◌∙◌, arith, w64, of_z, to_z, mod-lt, pow_pos}
use Rattle.std.specs.Int.{int_wrap}
use Rattle.std.proofs.lemmas.Int.{SFits-int_wrap, int_wrap_fits, to_z-of_z, of_z-to_z, wrapping_add-bits, wrapping_sub-bits, wrapping_mul-bits, int_wrap-add_left, int_wrap-add_right, int_wrap-sub_right, int_wrap-mul_left, int_wrap-mul_right}
use Rattle.ca_sums.specs.Sums.{Alike}
use Rattle.ca_sums.proofs.Algebra.{alike_eq, alike_trans, alike_mod}

abbrev pub word : ℤ → ℕ
word z = of_z w64 (int_wrap w64 z)

pub word_fits : (z : ℤ) → FitsSigned w64 z → word z ≡ of_z w64 z
word_fits z f = ap (of_z w64) (int_wrap_fits w64 z f)

pub word_wrap : (z : ℤ) → word (int_wrap w64 z) ≡ word z
word_wrap z = word_fits (int_wrap w64 z) (SFits-int_wrap w64 z)

pub word_pos : (n : ℕ) → word (pos n) ≡ n % (2 ^ 64)
unfolding int_wrap
word_pos n = of_z-to_z w64 (n % (2 ^ 64)) (mod-lt n (pow_pos 64))

small : (z : ℤ) → FitsSigned w64 z → of_z w64 z < 2 ^ 64
small z f = search rules

fit_add : (a b : ℤ) → FitsSigned w64 a → FitsSigned w64 b → Alike (word (a +ℤ b)) (of_z w64 a + of_z w64 b)
fit_add a b f g =
    let e : int_wrap w64 (a +ℤ b) ≡ to_z w64 ((of_z w64 a + of_z w64 b) % (2 ^ 64)) = ap₂ (λ x y. int_wrap w64 (x +ℤ y)) (sym (to_z-of_z w64 a f)) (sym (to_z-of_z w64 b g)) ∙ sym (wrapping_add-bits w64 (of_z w64 a) (of_z w64 b) (small a f) (small b g)) in
    alike_trans (alike_eq (ap (of_z w64) e ∙ of_z-to_z w64 ((of_z w64 a + of_z w64 b) % (2 ^ 64)) (mod-lt (of_z w64 a + of_z w64 b) (pow_pos 64)))) (alike_mod (of_z w64 a + of_z w64 b))

pub word_add : (a b : ℤ) → Alike (word (a +ℤ b)) (word a + word b)
word_add a b =
    let e : int_wrap w64 (a +ℤ b) ≡ int_wrap w64 (int_wrap w64 a +ℤ int_wrap w64 b) = sym (int_wrap-add_right w64 (int_wrap w64 a) b ∙ int_wrap-add_left w64 a b) in
    alike_trans (alike_eq (ap (of_z w64) e)) (fit_add (int_wrap w64 a) (int_wrap w64 b) (SFits-int_wrap w64 a) (SFits-int_wrap w64 b))

minus_is : (x y : ℕ) → y < 2 ^ 64 → (x + (2 ^ 64 - y)) % (2 ^ 64) ≡ (x + (2 ^ 64 - 1) * y) % (2 ^ 64)
minus_is x y h = omega arith

fit_sub : (a b : ℤ) → FitsSigned w64 a → FitsSigned w64 b → Alike (word (a -ℤ b)) (of_z w64 a + (2 ^ 64 - 1) * of_z w64 b)
fit_sub a b f g =
    let e : int_wrap w64 (a -ℤ b) ≡ to_z w64 ((of_z w64 a + (2 ^ 64 - of_z w64 b)) % (2 ^ 64)) = ap₂ (λ x y. int_wrap w64 (x -ℤ y)) (sym (to_z-of_z w64 a f)) (sym (to_z-of_z w64 b g)) ∙ sym (wrapping_sub-bits w64 (of_z w64 a) (of_z w64 b) (small a f) (small b g)) in
    alike_trans (alike_eq (ap (of_z w64) e ∙ of_z-to_z w64 ((of_z w64 a + (2 ^ 64 - of_z w64 b)) % (2 ^ 64)) (mod-lt (of_z w64 a + (2 ^ 64 - of_z w64 b)) (pow_pos 64)))) (alike_trans (alike_mod (of_z w64 a + (2 ^ 64 - of_z w64 b))) (record { alike = minus_is (of_z w64 a) (of_z w64 b) (small b g) }))

pub word_sub : (a b : ℤ) → Alike (word (a -ℤ b)) (word a + (2 ^ 64 - 1) * word b)
word_sub a b =
    let e : int_wrap w64 (a -ℤ b) ≡ int_wrap w64 (int_wrap w64 a -ℤ int_wrap w64 b) = sym (int_wrap-sub_right w64 (int_wrap w64 a) b ∙ int_wrap-add_left w64 a (neg_ℤ b)) in
    alike_trans (alike_eq (ap (of_z w64) e)) (fit_sub (int_wrap w64 a) (int_wrap w64 b) (SFits-int_wrap w64 a) (SFits-int_wrap w64 b))

fit_mul : (a b : ℤ) → FitsSigned w64 a → FitsSigned w64 b → Alike (word (a *ℤ b)) (of_z w64 a * of_z w64 b)
fit_mul a b f g =
    let e : int_wrap w64 (a *ℤ b) ≡ to_z w64 ((of_z w64 a * of_z w64 b) % (2 ^ 64)) = ap₂ (λ x y. int_wrap w64 (x *ℤ y)) (sym (to_z-of_z w64 a f)) (sym (to_z-of_z w64 b g)) ∙ sym (wrapping_mul-bits w64 (of_z w64 a) (of_z w64 b) (small a f) (small b g)) in
    alike_trans (alike_eq (ap (of_z w64) e ∙ of_z-to_z w64 ((of_z w64 a * of_z w64 b) % (2 ^ 64)) (mod-lt (of_z w64 a * of_z w64 b) (pow_pos 64)))) (alike_mod (of_z w64 a * of_z w64 b))

pub word_mul : (a b : ℤ) → Alike (word (a *ℤ b)) (word a * word b)
word_mul a b =
    let e : int_wrap w64 (a *ℤ b) ≡ int_wrap w64 (int_wrap w64 a *ℤ int_wrap w64 b) = sym (int_wrap-mul_right w64 (int_wrap w64 a) b ∙ int_wrap-mul_left w64 a b) in
    alike_trans (alike_eq (ap (of_z w64) e)) (fit_mul (int_wrap w64 a) (int_wrap w64 b) (SFits-int_wrap w64 a) (SFits-int_wrap w64 b))

pub word_small : (z : ℤ) → word z < 2 ^ 64
word_small z = small (int_wrap w64 z) (SFits-int_wrap w64 z)
