-- The order of pairs of numbers: by the first, and then by the second.
use Rattle.std.specs.Prelude.{ℕ, ◌≡◌, ◌<◌, ◌⊎◌}

abbrev pub PairBefore : ℕ × ℕ → ℕ × ℕ → Type 0
PairBefore x y = (x.0 < y.0) ⊎ ((x.0 ≡ y.0) × (x.1 < y.1))
