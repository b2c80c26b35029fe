-- What a list made from another one holds.
use Rattle.std.proofs.Common.{◌≡◌, ◌⊎◌, inl, inr, ◌<◌, List, [], ◌∷◌, ◌++◌, map, length, get_or, sym, ◌∙◌, subst, arith}
use Rattle.std.specs.Prelude.{Contains, flat_map}
use Rattle.std.proofs.lemmas.List.{length-map, get_or-map}
use Rattle.std.proofs.lemmas.List.Elements.{Contains-get_or, Contains-append_left, Contains-append_right, Contains-append_cases}
use Rattle.ca_lists.proofs.Members.{has_first, has_further, first_or_behind}

pub from_map : {A B : Type 0} (f : A → B) (xs : List A) (y : B) → Contains (map f xs) y → (x : A) × Contains xs x × (f x ≡ y)
from_map f [] y (k, below, is) = absurd (omega (arith, below))
from_map f (x ∷ xs) y (k, below, is) =
    let h : k < length (x ∷ xs) = omega (arith, below, length-map (x ∷ xs) f) in
    (get_or (x ∷ xs) k x, Contains-get_or (x ∷ xs) k x h, sym (get_or-map f (x ∷ xs) k x y h) ∙ is)

pub into_flat_map : {A B : Type 0} (f : A → List B) (xs : List A) (x : A) (y : B) → Contains xs x → Contains (f x) y → Contains (flat_map f xs) y
into_flat_map f [] x y (k, below, is) d = absurd (omega (arith, below))
into_flat_map {B = B} f (z ∷ zs) x y c d = from (first_or_behind z x zs c) (λ b. into_flat_map f zs x y b d)
  where
    from : (z ≡ x) ⊎ Contains zs x → (Contains zs x → Contains (flat_map f zs) y) → Contains (f z ++ flat_map f zs) y
    from (inl e) more = Contains-append_left (f z) (flat_map f zs) y (subst (λ u. Contains (f u) y) (sym e) d)
    from (inr b) more = Contains-append_right (f z) (flat_map f zs) y (more b)

pub from_flat_map : {A B : Type 0} (f : A → List B) (xs : List A) (y : B) → Contains (flat_map f xs) y → (x : A) × Contains xs x × Contains (f x) y
from_flat_map f [] y (k, below, is) = absurd (omega (arith, below))
from_flat_map {A} f (z ∷ zs) y c = from (Contains-append_cases (f z) (flat_map f zs) y c) (λ d. from_flat_map f zs y d)
  where
    from : Contains (f z) y ⊎ Contains (flat_map f zs) y → (Contains (flat_map f zs) y → (x : A) × Contains zs x × Contains (f x) y) → (x : A) × Contains (z ∷ zs) x × Contains (f x) y
    from (inl d) more = (z, has_first z zs, d)
    from (inr d) more = let r = more d in (r.0, has_further z r.0 zs r.1, r.2)
