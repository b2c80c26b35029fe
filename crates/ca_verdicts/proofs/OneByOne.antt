-- Fields, one by one.
use Rattle.std.proofs.Common.{inl, inr, ◌⊎◌, ◌≡◌, ◌≢◌, ℕ, zero, suc, ◌+◌, ◌<◌, ◌≤◌, List, [], ◌∷◌, length, take, Some, refl, sym, ap, ◌∙◌, arith, subst, slice_index_or}
use Rattle.std.specs.Prelude.{slice_get}
use Rattle.ca_norm.specs.Terms.{PlainTerm}
use Rattle.ca_norm.specs.Forms.{norm}
use Rattle.ca_forms.specs.declared.form.Normal.{Normal}
use Rattle.ca_verdicts.specs.Verdicts.{OrderedScalar, SameField, SameFields}
use Rattle.ca_verdicts.specs.clauses.Comparisons.{Not}

same_steps : (ts us : List PlainTerm) (i : ℕ) (t u : PlainTerm) → i < length ts → length ts ≡ length us → t ≡ slice_index_or ts i t → u ≡ slice_index_or us i u →
    SameField t u → SameFields (take i ts) (take i us) → SameFields (take (suc i) ts) (take (suc i) us)
same_steps [] us i t u l e f g h s = absurd (omega (arith, l))
same_steps (x ∷ ts) [] i t u l e f g h s = absurd (omega (arith, e))
same_steps (x ∷ ts) (y ∷ us) zero t u l e f g h s = (subst (λ z. SameField z y) f (subst (SameField t) g h), tt)
same_steps (x ∷ ts) (y ∷ us) (suc i) t u l e f g h s = (s.0, same_steps ts us i t u (omega (arith, l)) (omega (arith, e)) f g h s.1)

pub same_more : (ts us : List PlainTerm) (i : ℕ) (t u : PlainTerm) → i < length ts → length ts ≡ length us → t ≡ slice_index_or ts i t → u ≡ slice_index_or us i u →
    SameField t u → SameFields (take i ts) (take i us) → SameFields (take (i + 1) ts) (take (i + 1) us)
same_more ts us i t u l e f g h s = subst (λ n. SameFields (take n ts) (take n us)) (let z : suc i ≡ i + 1 = omega arith in z) (same_steps ts us i t u l e f g h s)

take_over : (xs : List PlainTerm) (i : ℕ) → length xs ≤ i → take i xs ≡ xs
take_over [] zero l = refl
take_over [] (suc i) l = refl
take_over (x ∷ xs) zero l = absurd (omega (arith, l))
take_over (x ∷ xs) (suc i) l = ap (λ zs. x ∷ zs) (take_over xs i (omega (arith, l)))

pub same_end : (ts us : List PlainTerm) (i : ℕ) → length ts ≤ i → length ts ≡ length us → SameFields (take i ts) (take i us) → SameFields ts us
same_end ts us i l e s = subst (λ z. SameFields z us) (take_over ts i l) (subst (SameFields (take i ts)) (take_over us i (omega (arith, l, e))) s)

pub stands_at : (xs : List PlainTerm) (i : ℕ) (x : PlainTerm) → i < length xs → x ≡ slice_index_or xs i x → slice_get xs i ≡ Some x
stands_at [] i x l e = absurd (omega (arith, l))
stands_at (y ∷ xs) zero x l e = ap (λ (z : PlainTerm). Some z) (sym e)
stands_at (y ∷ xs) (suc i) x l e = stands_at xs i x (omega (arith, l)) e

-- neither by forms nor by orders
pub not_same : (t u : PlainTerm) (x y : Normal) → x ≡ norm t → y ≡ norm u → x ≢ y → Not (OrderedScalar t u) → Not (SameField t u)
not_same t u x y e f d n = by
  where
    by : (norm t ≡ norm u) ⊎ OrderedScalar t u → ⊥
    by (inl g) = absurd (d (e ∙ g ∙ sym f))
    by (inr o) = n o
