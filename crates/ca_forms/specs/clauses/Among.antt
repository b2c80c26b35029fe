-- Where an operand stands among others that rise, or is to stand.
use Rattle.std.specs.Prelude.{◌≡◌, ℕ, ◌≤◌, Bool, false, List, [], ◌∷◌, length, take, drop}
use Rattle.std.proofs.Common.{Ordering, Less, is_eq}

-- all come before k
abbrev pub AllBefore : {F : Type 0} → (F → F → Ordering) → F → List F → Type 0
AllBefore R k [] = Unit {0}
AllBefore R k (x ∷ xs) = (R x k ≡ Less) × AllBefore R k xs

-- the first of them, if there is one, doesn't
abbrev pub NotBefore : {F : Type 0} → (F → F → Ordering) → F → List F → Type 0
NotBefore R k [] = Unit {0}
NotBefore R k (x ∷ xs) = R x k ≡ Less → ⊥

abbrev pub IsPlaceAmong : {F : Type 0} → (F → F → Ordering) → F → List F → ℕ → Type 0
IsPlaceAmong R k xs n = (n ≤ length xs) × AllBefore R k (take n xs) × NotBefore R k (drop n xs)

-- whether the first of them is like k
abbrev pub is_first : {F : Type 0} → (F → F → Ordering) → F → List F → Bool
is_first R k [] = false
is_first R k (x ∷ xs) = is_eq (R x k)
