-- Disjunctions of the same things are equal, in whatever order and as often as they stand there.
use Rattle.std.proofs.Common.{◌≡◌, ℕ, Bool, true, false, ◌||◌, ◌&&◌, List, [], ◌∷◌, ◌++◌, refl, sym, ap, ap₂, ◌∙◌}
use Rattle.std.specs.Prelude.{nat_eq, get_or}
use Rattle.std.specs.List.{list_any}
use Rattle.std.specs.Cmp.{both_ways}
use Rattle.std.proofs.Math.Bool.{or-false}
use Rattle.std.proofs.lemmas.Bool.{eqb-true, and_parts, or_right}
use Rattle.std.proofs.lemmas.List.Folds.{list_any-append}
use Rattle.ca_norm.proofs.Operations.{bools_same as alike}

-- a disjunction over values that have numbers
pub data Or : Type 0 where
  v : ℕ → Or
  none : Or
  either : Or → Or → Or

abbrev pub value : List Bool → Or → Bool
value bs (v n) = get_or bs n false
value bs none = false
value bs (either a b) = value bs a || value bs b

abbrev pub leaves : Or → List ℕ
leaves (v n) = n ∷ []
leaves none = []
leaves (either a b) = leaves a ++ leaves b

by_leaves : (bs : List Bool) (t : Or) → value bs t ≡ list_any (λ n. get_or bs n false) (leaves t)
by_leaves bs (v n) = sym (or-false (get_or bs n false))
by_leaves bs none = refl
by_leaves bs (either a b) = ap₂ (λ x y. x || y) (by_leaves bs a) (by_leaves bs b) ∙ sym (list_any-append (λ n. get_or bs n false) (leaves a) (leaves b))

abbrev pub among : ℕ → List ℕ → Bool
among m [] = false
among m (n ∷ ns) = nat_eq m n || among m ns

abbrev pub within : List ℕ → List ℕ → Bool
within [] ns = true
within (m ∷ ms) ns = among m ns && within ms ns

at_first : (f : ℕ → Bool) (m n : ℕ) (ns : List ℕ) → f m ≡ true → (among m ns ≡ true → list_any f ns ≡ true) → (b : Bool) → nat_eq m n ≡ b →
    (b || among m ns) ≡ true → (f n || list_any f ns) ≡ true
at_first f m n ns t later true e a = ap (λ x. f x || list_any f ns) (sym (eqb-true m n e)) ∙ ap (λ x. x || list_any f ns) t
at_first f m n ns t later false e a = or_right (f n) (list_any f ns) (later a)

found : (f : ℕ → Bool) (m : ℕ) (ns : List ℕ) → among m ns ≡ true → f m ≡ true → list_any f ns ≡ true
found f m [] a t = absurd cc
found f m (n ∷ ns) a t = at_first f m n ns t (λ b. found f m ns b t) (nat_eq m n) refl a

one_or_more : (f : ℕ → Bool) (m : ℕ) (ms ns : List ℕ) → among m ns ≡ true → (list_any f ms ≡ true → list_any f ns ≡ true) → (x : Bool) → f m ≡ x →
    (x || list_any f ms) ≡ true → list_any f ns ≡ true
one_or_more f m ms ns a later true e t = found f m ns a e
one_or_more f m ms ns a later false e t = later t

carried : (f : ℕ → Bool) (ms ns : List ℕ) → within ms ns ≡ true → list_any f ms ≡ true → list_any f ns ≡ true
carried f [] ns w t = absurd cc
carried f (m ∷ ms) ns w t =
    let b = and_parts (among m ns) (within ms ns) w in
    one_or_more f m ms ns b.0 (λ u. carried f ms ns b.1 u) (f m) refl t

pub same_ors : (bs : List Bool) (t u : Or) → within (leaves t) (leaves u) ≡ true → within (leaves u) (leaves t) ≡ true → value bs t ≡ value bs u
same_ors bs t u p q =
    let f : ℕ → Bool = λ n. get_or bs n false in
    by_leaves bs t ∙ (both_ways (list_any f (leaves t)) (list_any f (leaves u)) (carried f (leaves t) (leaves u) p) (carried f (leaves u) (leaves t) q) ∙ sym (by_leaves bs u))

-- what makes another true can stand beside it
pub absorbed : (x y : Bool) → (x ≡ true → y ≡ true) → y ≡ (x || y)
absorbed true y f = f refl
absorbed false y f = refl
