-- A map that finds each name by its number.
use Rattle.std.specs.Prelude.{◌≡◌, ℕ, List}
use Rattle.std.specs.Borrow.{Bor}
use Rattle.std.specs.Ordering.{nat_cmp}
use Rattle.std.specs.Cmp.Lexicographic.{slice_cmp}
use Rattle.std.specs.BTreeMap.{BTreeMap, get_by}
use Rattle.ca_resolve.specs.Scopes.{number_of}

-- at each name the map has its number in the list
abbrev pub IsIndex : BTreeMap (Bor (List ℕ)) ℕ → List (List ℕ) → Type 0
IsIndex m names = (q : List ℕ) → get_by (λ k. slice_cmp nat_cmp q k.now) m ≡ number_of names q
