-- Products of formal sums: each product of the one times each of the other.
use Rattle.std.specs.Prelude.{ℕ, ◌*◌, [], ◌∷◌, ◌++◌}
use Rattle.ca_sums.specs.Sums.{Sum}

-- one product times each of the sum
abbrev pub row : {M : Type 0} → (M → M → M) → M × ℕ → Sum M → Sum M
row mul p [] = []
row mul p (q ∷ qs) = (mul p.0 q.0, p.1 * q.1) ∷ row mul p qs

abbrev pub product : {M : Type 0} → (M → M → M) → Sum M → Sum M → Sum M
product mul [] qs = []
product mul (p ∷ ps) qs = row mul p qs ++ product mul ps qs
