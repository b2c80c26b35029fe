-- The next power of a product of what is left of two monomials.
use Rattle.std.specs.Prelude.{◌≡◌, ℕ, ◌+◌, ◌≤◌, ◌<◌, List, ◌∷◌, length, drop, Result, IfOk}
use Rattle.ca_forms.specs.Plain.{PlainPart}
use Rattle.ca_forms.specs.Products.{merge}

abbrev pub IsNext : {E : Type 0} → List (PlainPart × ℕ) → ℕ → List (PlainPart × ℕ) → ℕ → Result (PlainPart × ℕ) E × ℕ × ℕ → Type 0
IsNext xs i ys j r =
    IfOk r.0 (λ z. merge (drop i xs) (drop j ys) ≡ z ∷ merge (drop r.1 xs) (drop r.2 ys))
    × (r.1 ≤ length xs) × (r.2 ≤ length ys) × (i + j < r.1 + r.2)
