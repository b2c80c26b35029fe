-- Forms that are numbers, by their lists of products.
use Rattle.std.proofs.Common.{◌≡◌, ℕ, suc, false, None, List, [], ◌∷◌, length, get_or, refl, sym, ap, ◌∙◌, arith, ◌==◌}
use Rattle.std.proofs.lemmas.Bool.Decides.{nat_tests}
use Rattle.ca_forms.specs.Plain.{PlainPart, PlainPolynomial, PlainMonomial, no_powers, power_and, product_and}
use Rattle.ca_forms.specs.Lists.{monomial_of, polynomial_of}
use Rattle.ca_forms.specs.Rules.{is_one, constancy}
use Rattle.ca_forms.specs.clauses.Places.{is_nothing}

pub positive : (n : ℕ) → (suc n == 0) ≡ false
positive n = grind (arith, nat_tests)

pub one_of : (ps : List (PlainPart × ℕ)) → (length ps == 0) ≡ is_one (monomial_of ps)
one_of [] = refl
one_of (p ∷ ps) = positive (length ps)

pub is_none : (ps : List (PlainMonomial × ℕ)) → (length ps == 0) ≡ is_nothing (polynomial_of ps)
is_none [] = refl
is_none (p ∷ ps) = positive (length ps)

many_at : (m : PlainMonomial) (c : ℕ) (n : PlainMonomial) (d : ℕ) (f : PlainPolynomial) → None ≡ constancy (product_and m c (product_and n d f))
many_at no_powers c n d f = refl
many_at (power_and p e m) c n d f = refl

pub many : (ps : List (PlainMonomial × ℕ)) → (length ps ≡ 0 → ⊥) → (length ps ≡ 1 → ⊥) → None ≡ constancy (polynomial_of ps)
many [] h k = absurd (h refl)
many (p ∷ []) h k = absurd (k refl)
many (p ∷ q ∷ ps) h k = many_at p.0 p.1 q.0 q.1 (polynomial_of ps)

other_at : (m : PlainMonomial) (c : ℕ) (f : PlainPolynomial) → is_one m ≡ false → None ≡ constancy (product_and m c f)
other_at no_powers c f e = cc
other_at (power_and p e m) c f h = refl

pub other : (ps : List (PlainMonomial × ℕ)) (x : PlainMonomial × ℕ) → x ≡ get_or ps 0 x → (length ps ≡ 0 → ⊥) → is_one x.0 ≡ false → None ≡ constancy (polynomial_of ps)
other [] x e h f = absurd (h refl)
other (p ∷ ps) x e h f = other_at p.0 p.1 (polynomial_of ps) (ap (λ r. is_one r.0) (sym e) ∙ f)
