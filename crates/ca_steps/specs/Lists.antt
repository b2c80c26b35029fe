-- Lists that have an item.
use Rattle.std.specs.Prelude.{Bool, true, false, List, [], ◌∷◌}

-- whether there is one
abbrev pub has_some : {T : Type 0} → List T → Bool
has_some [] = false
has_some (x ∷ xs) = true
