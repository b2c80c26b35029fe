-- What divisions leave as words.
use Rattle.std.proofs.Common.{◌≡◌, ◌≢◌, ℕ, zero, suc, ◌%◌, ◌^◌, ℤ, pos, negsuc, int_div, int_rem, false, cond, FitsSigned, Ok, Err, refl, sym, ap, ◌∙◌, arith, w64, of_z, to_z}
use Rattle.std.specs.Int.{int_wrapping_div, cast_signed, cast_unsigned}
use Rattle.std.proofs.lemmas.Int.{ints, rem_below, fits_signed_from_abs}
use Rattle.ca_tree.specs.declared.tree.BinaryOp.TheVariants as op
use Rattle.ca_model.specs.declared.value.Value.{Value as Datum}
use Rattle.ca_model.specs.declared.value.Value.TheVariants as datum
use Rattle.ca_model.specs.declared.value.TrapKind.TheVariants.{ZeroDivisor}
use Rattle.ca_meaning.specs.Operators.{is_zero}
use Rattle.ca_forms.specs.Rules.{is_nought, divided, left_over}
use Rattle.ca_sums.specs.Sums.{Alike}
use Rattle.ca_norm.specs.Meanings.{value_or_null, operate, word_of}
use Rattle.ca_norm.proofs.Words.{word_fits}
use Rattle.ca_norm.proofs.Operations.{IsLong, back}

pub none : (n : ℤ) → n ≢ pos 0 → is_zero n ≡ false
none (pos zero) h = absurd (h refl)
none (pos (suc n)) h = refl
none (negsuc n) h = refl

nought : (n : ℤ) → n ≢ pos 0 → is_nought n ≡ false
nought (pos zero) h = absurd (h refl)
nought (pos (suc n)) h = refl
nought (negsuc n) h = refl

pub cast_fits : (n : ℕ) → FitsSigned w64 (cast_signed w64 n)
cast_fits n = omega (arith, ints)

quotient_fits : (a b : ℤ) → FitsSigned w64 (int_wrapping_div w64 a b)
quotient_fits a b = cast_fits (cast_unsigned w64 (int_div a b))

remainder_fits : (a b : ℤ) → FitsSigned w64 b → b ≢ pos 0 → FitsSigned w64 (int_rem a b)
remainder_fits a (pos zero) f h = absurd (h refl)
remainder_fits a (pos (suc n)) f h = fits_signed_from_abs w64 (int_rem a (pos (suc n))) (omega (arith, rem_below a (pos (suc n)) (omega arith), f.sfits))
remainder_fits a (negsuc n) f h = fits_signed_from_abs w64 (int_rem a (negsuc n)) (omega (arith, rem_below a (negsuc n) (omega arith), f.sfits))

quotient_is : (d : Datum) (n : ℤ) (g : IsLong d) → n ≢ pos 0 → operate op.Divide d (datum.Long n) ≡ datum.Long (int_wrapping_div w64 g.number n)
quotient_is d n g h =
    ap (λ z. operate op.Divide z (datum.Long n)) g.is ∙ ap (λ b. value_or_null (cond b (Err ZeroDivisor) (Ok (datum.Long (int_wrapping_div w64 g.number n))))) (none n h)

remainder_is : (d : Datum) (n : ℤ) (g : IsLong d) → n ≢ pos 0 → operate op.Remainder d (datum.Long n) ≡ datum.Long (int_rem g.number n)
remainder_is d n g h =
    ap (λ z. operate op.Remainder z (datum.Long n)) g.is ∙ ap (λ b. value_or_null (cond b (Err ZeroDivisor) (Ok (datum.Long (int_rem g.number n))))) (none n h)

pub quotient_typed : (d : Datum) (n : ℤ) → IsLong d → n ≢ pos 0 → IsLong (operate op.Divide d (datum.Long n))
quotient_typed d n g h = record { number = _; fits = quotient_fits g.number n; is = quotient_is d n g h }

pub remainder_typed : (d : Datum) (n : ℤ) → IsLong d → FitsSigned w64 n → n ≢ pos 0 → IsLong (operate op.Remainder d (datum.Long n))
remainder_typed d n g f h = record { number = _; fits = remainder_fits g.number n f h; is = remainder_is d n g h }

signed_is : (d : Datum) (k : ℕ) (g : IsLong d) → Alike k (word_of d) → to_z w64 (k % (2 ^ 64)) ≡ g.number
signed_is d k g a = ap (to_z w64) (a.alike ∙ ap (λ z. word_of z % (2 ^ 64)) g.is) ∙ back g.number g.fits

pub quotient_word : (d : Datum) (n : ℤ) (k : ℕ) → IsLong d → n ≢ pos 0 → Alike k (word_of d) → word_of (operate op.Divide d (datum.Long n)) ≡ divided k n
quotient_word d n k g h a =
    ap word_of (quotient_is d n g h) ∙ word_fits (int_wrapping_div w64 g.number n) (quotient_fits g.number n) ∙ ap (λ z. of_z w64 (int_wrapping_div w64 z n)) (sym (signed_is d k g a))
    ∙ ap (λ b. cond b 0 (of_z w64 (int_wrapping_div w64 (to_z w64 (k % (2 ^ 64))) n))) (sym (nought n h))

pub remainder_word : (d : Datum) (n : ℤ) (k : ℕ) → IsLong d → FitsSigned w64 n → n ≢ pos 0 → Alike k (word_of d) → word_of (operate op.Remainder d (datum.Long n)) ≡ left_over k n
remainder_word d n k g f h a =
    ap word_of (remainder_is d n g h) ∙ word_fits (int_rem g.number n) (remainder_fits g.number n f h) ∙ ap (λ z. of_z w64 (int_rem z n)) (sym (signed_is d k g a))
    ∙ ap (λ b. cond b 0 (of_z w64 (int_rem (to_z w64 (k % (2 ^ 64))) n))) (sym (nought n h))
