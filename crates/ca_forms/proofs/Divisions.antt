-- Division by a number that isn't 0, as it is done on words.
use Rattle.std.proofs.Common.{◌≡◌, ℕ, zero, suc, ◌%◌, ◌^◌, ◌<◌, ℤ, pos, negsuc, false, cond, SFits, refl, sym, ap, ◌∙◌, w64, of_z, to_z, to_z-of_z}
use Rattle.std.proofs.Math.Nat.{mod-eq_of_lt}
use Rattle.ca_forms.specs.Rules.{is_nought}

some : (n : ℤ) → (of_z w64 n ≡ 0 → ⊥) → is_nought n ≡ false
some (pos zero) h = absurd (h refl)
some (pos (suc k)) h = refl
some (negsuc k) h = refl

pub word_of : (op : ℤ → ℤ → ℤ) (m : ℕ) (n s q : ℤ) (r : ℕ) → m < 2 ^ 64 → SFits w64 n → SFits w64 s → SFits w64 q → (of_z w64 n ≡ 0 → ⊥) → s ≡ to_z w64 m → q ≡ op (to_z w64 (of_z w64 s)) (to_z w64 (of_z w64 n)) → r ≡ of_z w64 (to_z w64 (of_z w64 q)) → r ≡ cond (is_nought n) 0 (of_z w64 (op (to_z w64 (m % (2 ^ 64))) n))
word_of op m n s q r small f g h some_n e d w =
    let dividend : to_z w64 (of_z w64 s) ≡ to_z w64 (m % (2 ^ 64)) = to_z-of_z g ∙ e ∙ ap (to_z w64) (sym (mod-eq_of_lt small)) in
    let divisor : to_z w64 (of_z w64 n) ≡ n = to_z-of_z f in
    w ∙ ap (of_z w64) (to_z-of_z h ∙ d ∙ ap (λ z. op z (to_z w64 (of_z w64 n))) dividend ∙ ap (λ z. op (to_z w64 (m % (2 ^ 64))) z) divisor)
    ∙ ap (λ b. cond b 0 (of_z w64 (op (to_z w64 (m % (2 ^ 64))) n))) (sym (some n some_n))
