-- How visible locals are found by their names: each is numbered from the outermost, and keeps the number of the local that it hides.
use Rattle.std.specs.Prelude.{◌≡◌, ℕ, List, [], ◌∷◌, ◌++◌, Option, Some, None, cond, length}
use Rattle.std.specs.Borrow.{Bor}
use Rattle.std.specs.Ordering.{nat_cmp}
use Rattle.std.specs.Cmp.Lexicographic.{slice_cmp}
use Rattle.std.specs.BTreeMap.{BTreeMap, get_by}
use Rattle.ca_resolve.specs.declared.locals.Shadow.{Shadow}
use Rattle.ca_resolve.specs.Scopes.{VisibleLocal, same_name}
use Rattle.ca_resolve.specs.LocalView.{local_view}

-- the number of the innermost local of the name, where the list begins with the innermost
abbrev pub depth_of : List VisibleLocal → List ℕ → Option ℕ
depth_of [] name = None
depth_of (l ∷ ls) name = cond (same_name l.name name) (Some (length ls)) (depth_of ls name)

-- for each local the number of the one that it hides
abbrev pub hidden_by : List VisibleLocal → List (Option ℕ)
hidden_by [] = []
hidden_by (l ∷ ls) = depth_of ls l.name ∷ hidden_by ls

-- the locals, the last one first
abbrev pub innermost_first : List Shadow → List VisibleLocal
innermost_first [] = []
innermost_first (s ∷ ss) = innermost_first ss ++ local_view s.local ∷ []

abbrev pub hides_first : List Shadow → List (Option ℕ)
hides_first [] = []
hides_first (s ∷ ss) = hides_first ss ++ s.hides ∷ []

-- the map has at each name the number of its innermost local
abbrev pub IsInnermost : BTreeMap (Bor (List ℕ)) ℕ → List VisibleLocal → Type 0
IsInnermost m ls = (q : List ℕ) → get_by (λ k. slice_cmp nat_cmp q k.now) m ≡ depth_of ls q

-- the map is right, and each local keeps the number of the one that it hides
abbrev pub FindsLocals : BTreeMap (Bor (List ℕ)) ℕ → List Shadow → Type 0
FindsLocals m ss = IsInnermost m (innermost_first ss) × (hides_first ss ≡ hidden_by (innermost_first ss))
