-- What stands at a place of a list, which changes there or grows at its end.
use Rattle.std.proofs.Common.{◌≡◌, ◌⊎◌, inl, inr, ℕ, zero, suc, ◌+◌, ◌<◌, List, [], ◌∷◌, ◌++◌, map, length, get_or, drop, drop-cons, add-one, Some, refl, sym, ap, arith}
use Rattle.std.specs.Prelude.{slice_get, slice_set}
use Rattle.std.specs.List.{AllByRecursion}
use Rattle.std.proofs.lemmas.Option.{same_Some, none-some}

pub heads : {A : Type 0} {x y : A} {xs ys : List A} → x ∷ xs ≡ y ∷ ys → x ≡ y
heads e = cc

pub tails : {A : Type 0} {x y : A} {xs ys : List A} → x ∷ xs ≡ y ∷ ys → xs ≡ ys
tails e = cc

pub no_item : {A : Type 0} {x : A} {xs : List A} → [] ≡ x ∷ xs → ⊥
no_item e = cc

pub same_by_places : {A : Type 0} (xs ys : List A) → ((n : ℕ) → slice_get xs n ≡ slice_get ys n) → xs ≡ ys
same_by_places [] [] h = refl
same_by_places [] (y ∷ ys) h = let e = h 0 in cc
same_by_places (x ∷ xs) [] h = let e = h 0 in cc
same_by_places (x ∷ xs) (y ∷ ys) h = let e = h 0 in let t : xs ≡ ys = same_by_places xs ys (λ n. h (suc n)) in cc

-- the items from i on
pub item_and_rest : {A : Type 0} (xs : List A) (i : ℕ) (x : A) → i < length xs → x ≡ get_or xs i x → drop i xs ≡ x ∷ drop (i + 1) xs
item_and_rest xs i x h e = rw (drop-cons xs i x h, ← e, add-one) refl

pub item_there : {A : Type 0} (xs : List A) (n : ℕ) → n < length xs → (x : A) × (slice_get xs n ≡ Some x)
item_there [] n l = absurd (omega (arith, l))
item_there (x ∷ xs) zero l = (x, refl)
item_there (x ∷ xs) (suc n) l = item_there xs n (omega (arith, l))

pub get_map : {A B : Type 0} (f : A → B) (xs : List A) (n : ℕ) (x : A) → slice_get xs n ≡ Some x → slice_get (map f xs) n ≡ Some (f x)
get_map f [] n x e = absurd (none-some x e)
get_map f (y ∷ xs) zero x e = ap (λ z. Some (f z)) (same_Some y x e)
get_map f (y ∷ xs) (suc n) x e = get_map f xs n x e

-- ---- a list that grows

pub get_in_front : {A : Type 0} (xs ys : List A) (n : ℕ) (x : A) → slice_get xs n ≡ Some x → slice_get (xs ++ ys) n ≡ Some x
get_in_front [] ys n x e = absurd (none-some x e)
get_in_front (y ∷ xs) ys zero x e = e
get_in_front (y ∷ xs) ys (suc n) x e = get_in_front xs ys n x e

pub get_last : {A : Type 0} (xs : List A) (x : A) → slice_get (xs ++ x ∷ []) (length xs) ≡ Some x
get_last [] x = refl
get_last (y ∷ xs) x = get_last xs x

-- a place of a list with one more is one before, or the last
pub before_or_last : (i n : ℕ) → i < n + 1 → (i < n) ⊎ (i ≡ n)
before_or_last zero zero h = inr refl
before_or_last zero (suc n) h = inl (omega arith)
before_or_last (suc i) zero h = absurd (omega (arith, h))
before_or_last (suc i) (suc n) h = at (before_or_last i n (omega (arith, h)))
  where
    at : (i < n) ⊎ (i ≡ n) → (suc i < suc n) ⊎ (suc i ≡ suc n)
    at (inl l) = inl (omega (arith, l))
    at (inr e) = inr (ap suc e)

-- each of both parts, each of the whole
pub all_append : {A : Type 0} (P : A → Type 0) (xs ys : List A) → AllByRecursion P xs → AllByRecursion P ys → AllByRecursion P (xs ++ ys)
all_append P [] ys h k = k
all_append P (x ∷ xs) ys h k = (h.0, all_append P xs ys h.1 k)

-- ---- a list that changes at a place

pub get_set_here : {A : Type 0} (xs : List A) (n : ℕ) (x y : A) → slice_get xs n ≡ Some x → slice_get (slice_set xs n y) n ≡ Some y
get_set_here [] n x y e = absurd (none-some x e)
get_set_here (z ∷ xs) zero x y e = refl
get_set_here (z ∷ xs) (suc n) x y e = get_set_here xs n x y e

-- what stands there, put there
pub set_back : {A : Type 0} (xs : List A) (n : ℕ) (x : A) → slice_get xs n ≡ Some x → slice_set xs n x ≡ xs
set_back [] n x e = refl
set_back (y ∷ xs) zero x e = ap (λ z. z ∷ xs) (sym (same_Some y x e))
set_back (y ∷ xs) (suc n) x e = ap (λ zs. y ∷ zs) (set_back xs n x e)
