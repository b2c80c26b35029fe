-- What a list has.
use Rattle.std.proofs.Common.{◌≡◌, ◌⊎◌, inl, inr, ℕ, zero, suc, List, [], ◌∷◌, ◌++◌, map, refl, ap, ◌∙◌, subst, arith}
use Rattle.std.specs.Prelude.{Contains, flat_map, slice_get, Some}
use Rattle.std.proofs.lemmas.List.{length-map, get_or-map}
use Rattle.std.proofs.lemmas.List.Elements.{Contains-append_left, Contains-append_right, Contains-append_cases}
use Rattle.std.proofs.lemmas.Option.{same_Some, none-some}

pub has_first : {A : Type 0} (x : A) (xs : List A) → Contains (x ∷ xs) x
has_first x xs = (zero, omega arith, refl)

pub has_further : {A : Type 0} (x y : A) (xs : List A) → Contains xs y → Contains (x ∷ xs) y
has_further x y xs (k, below, is) = (suc k, omega (arith, below), is)

pub first_or_behind : {A : Type 0} (x y : A) (xs : List A) → Contains (x ∷ xs) y → (x ≡ y) ⊎ Contains xs y
first_or_behind x y xs (zero, below, is) = inl is
first_or_behind x y xs (suc k, below, is) = inr (k, omega (arith, below), is)

-- the empty list has nothing, and a list of one nothing else
pub has_nothing : {A : Type 0} (x : A) → Contains [] x → ⊥
has_nothing x (k, below, is) = omega (arith, below)

pub has_only : {A : Type 0} (x y : A) → Contains (x ∷ []) y → x ≡ y
has_only x y (zero, below, is) = is
has_only x y (suc k, below, is) = absurd (omega arith)

pub map_has : {A B : Type 0} (f : A → B) (xs : List A) (x : A) → Contains xs x → Contains (map f xs) (f x)
map_has f xs x (k, below, is) = (k, omega (arith, below, length-map xs f), get_or-map f xs k x (f x) below ∙ ap f is)

-- what is made of a front, or of what is behind it, is made of the whole
pub flat_left : {A B : Type 0} (f : A → List B) (xs ys : List A) (y : B) → Contains (flat_map f xs) y → Contains (flat_map f (xs ++ ys)) y
flat_left f [] ys y c = let lt = c.1 in absurd (omega arith)
flat_left f (x ∷ xs) ys y c = from (λ a. flat_left f xs ys y a) (Contains-append_cases (f x) (flat_map f xs) y c)
  where
    from : (Contains (flat_map f xs) y → Contains (flat_map f (xs ++ ys)) y) → Contains (f x) y ⊎ Contains (flat_map f xs) y → Contains (f x ++ flat_map f (xs ++ ys)) y
    from h (inl a) = Contains-append_left (f x) (flat_map f (xs ++ ys)) y a
    from h (inr a) = Contains-append_right (f x) (flat_map f (xs ++ ys)) y (h a)

pub flat_right : {A B : Type 0} (f : A → List B) (xs ys : List A) (y : B) → Contains (flat_map f ys) y → Contains (flat_map f (xs ++ ys)) y
flat_right f [] ys y c = c
flat_right f (x ∷ xs) ys y c = Contains-append_right (f x) (flat_map f (xs ++ ys)) y (flat_right f xs ys y c)

-- what stands at a place
pub place_has : {A : Type 0} (xs : List A) (n : ℕ) (x : A) → slice_get xs n ≡ Some x → Contains xs x
place_has [] n x e = absurd (none-some x e)
place_has (y ∷ xs) zero x e = subst (Contains (y ∷ xs)) (same_Some y x e) (has_first y xs)
place_has (y ∷ xs) (suc n) x e = has_further y x xs (place_has xs n x e)
