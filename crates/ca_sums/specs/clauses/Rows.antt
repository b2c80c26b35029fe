-- Formal sums by rows: a finite map from indexes to formal sums, as one sum over pairs. A gathered sum of
-- an array is such a map, and so are the demands of an order.
use Rattle.std.specs.Prelude.{ℕ, List, [], ◌∷◌, ◌++◌}
use Rattle.std.specs.declared.cmp.Ordering.{Ordering}
use Rattle.std.specs.declared.cmp.Ordering.TheVariants.{Equal}
use Rattle.std.specs.Ordering.{ordering_then}
use Rattle.std.specs.List.Sorted.{IsStrictlySortedBy}
use Rattle.std.specs.Map.{keys_of}
use Rattle.ca_sums.specs.Sums.{Sum, NoZero}

-- each index with its sum
abbrev pub Rows : Type 0 → Type 0 → Type 0
Rows I M = List (I × Sum M)

-- the products of a row, each with the row's index
abbrev pub at_index : {I M : Type 0} → I → Sum M → Sum (I × M)
at_index i [] = []
at_index i (p ∷ ps) = ((i, p.0), p.1) ∷ at_index i ps

abbrev pub flat : {I M : Type 0} → Rows I M → Sum (I × M)
flat [] = []
flat (r ∷ rs) = at_index r.0 r.1 ++ flat rs

-- by index, and then by monomial
abbrev pub pair_cmp : {I M : Type 0} → (I → I → Ordering) → (M → M → Ordering) → I × M → I × M → Ordering
pair_cmp R S a b = ordering_then (R a.0 b.0) (S a.1 b.1)

abbrev pub joins : {I M : Type 0} → Ordering → I → M → ℕ → I × Sum M → Rows I M → Rows I M
joins Equal i m c r rs = (i, (m, c) ∷ r.1) ∷ rs
joins _ i m c r rs = (i, (m, c) ∷ []) ∷ r ∷ rs

-- one product more before the rows, which joins the first row if it has its index
abbrev pub before : {I M : Type 0} → (I → I → Ordering) → I → M → ℕ → Rows I M → Rows I M
before R i m c [] = (i, (m, c) ∷ []) ∷ []
before R i m c (r ∷ rs) = joins (R i r.0) i m c r rs

-- neighbours of one index make a row
abbrev pub grouped : {I M : Type 0} → (I → I → Ordering) → Sum (I × M) → Rows I M
grouped R [] = []
grouped R (p ∷ ps) = before R p.0.0 p.0.1 p.1 (grouped R ps)

-- no row is empty
abbrev pub NoEmpty : {I M : Type 0} → (M → M → Ordering) → Rows I M → Type 0
NoEmpty S [] = Unit {0}
NoEmpty S ((i, []) ∷ rs) = ⊥
NoEmpty S ((i, p ∷ ps) ∷ rs) = IsStrictlySortedBy S (keys_of (p ∷ ps)) × NoZero (p ∷ ps) × NoEmpty S rs

-- the indexes rise, and each row is a gathered sum that is not empty
abbrev pub InRows : {I M : Type 0} → (I → I → Ordering) → (M → M → Ordering) → Rows I M → Type 0
InRows R S rs = IsStrictlySortedBy R (keys_of rs) × NoEmpty S rs
