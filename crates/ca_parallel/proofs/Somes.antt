-- Where two lists have none, neither has one.
use Rattle.std.proofs.Common.{◌≡◌, List, [], ◌∷◌, ◌++◌, refl, false}
use Rattle.ca_parallel.specs.Separable.{is_some_of}

pub some_left : {A : Type 0} (xs ys : List A) → is_some_of (xs ++ ys) ≡ false → is_some_of xs ≡ false
some_left [] ys h = refl
some_left (x ∷ xs) ys h = h

pub some_right : {A : Type 0} (xs ys : List A) → is_some_of (xs ++ ys) ≡ false → is_some_of ys ≡ false
some_right [] ys h = h
some_right (x ∷ xs) ys h = cc
