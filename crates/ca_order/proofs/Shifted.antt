-- Places counted on.
use Rattle.std.proofs.Common.{◌≡◌, ℕ, zero, suc, ◌+◌, ◌<◌, true, false, cond, ◌∷◌, length, drop, refl, sym, ap, ◌∙◌, arith, slice_index_or}
use Rattle.std.specs.Prelude.{Option, Some, None}
use Rattle.std.specs.Ordering.{is_eq}
use Rattle.std.proofs.lemmas.List.{at_drop_more}
use Rattle.ca_forms.specs.Plain.{PlainPolynomial}
use Rattle.ca_forms.specs.Compare.{polynomial_cmp}
use Rattle.ca_order.specs.declared.point.Point.{Point}
use Rattle.ca_order.specs.Points.{Ranked, form_of}
use Rattle.ca_order.specs.Alike.{next}
use Rattle.ca_order.specs.Asked.{place_in}

abbrev pub shifted : ℕ → Option ℕ → Option ℕ
shifted n None = None
shifted n (Some i) = Some (n + i)

shift_next : (n : ℕ) (o : Option ℕ) → shifted n (next o) ≡ shifted (n + 1) o
shift_next n None = refl
shift_next n (Some i) = ap (λ (k : ℕ). Some k) (let z : n + suc i ≡ n + 1 + i = omega arith in z)

at_front : (f : PlainPolynomial) (xs : Ranked) (n : ℕ) (x : Point × ℕ) → n < length xs → x ≡ slice_index_or xs n x → place_in (drop n xs) f ≡ place_in (x ∷ drop (n + 1) xs) f
at_front f xs n x l e = at_drop_more (λ zs. place_in zs f) xs n x l ∙ ap (λ (z : Point × ℕ). place_in (z ∷ drop (n + 1) xs) f) (sym e)

pub found_here : (f : PlainPolynomial) (xs : Ranked) (n : ℕ) (x : Point × ℕ) → n < length xs → x ≡ slice_index_or xs n x → is_eq (polynomial_cmp f (form_of x.0)) ≡ true → shifted n (place_in (drop n xs) f) ≡ Some n
found_here f xs n x l e h = ap (shifted n) (at_front f xs n x l e) ∙ ap (λ b. shifted n (cond b (Some zero) (next (place_in (drop (n + 1) xs) f)))) h ∙ ap (λ (k : ℕ). Some k) (let z : n + 0 ≡ n = omega arith in z)

pub found_behind : (f : PlainPolynomial) (xs : Ranked) (n : ℕ) (x : Point × ℕ) → n < length xs → x ≡ slice_index_or xs n x → is_eq (polynomial_cmp f (form_of x.0)) ≡ false → shifted n (place_in (drop n xs) f) ≡ shifted (n + 1) (place_in (drop (n + 1) xs) f)
found_behind f xs n x l e h = ap (shifted n) (at_front f xs n x l e) ∙ ap (λ b. shifted n (cond b (Some zero) (next (place_in (drop (n + 1) xs) f)))) h ∙ shift_next n (place_in (drop (n + 1) xs) f)
