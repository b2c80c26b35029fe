-- What is at hand of the old value that was kept last.
use Rattle.std.specs.Prelude.{ℕ, ◌≡◌, ◌<◌, ◌^◌, List, [], ◌∷◌}
use Rattle.ca_undo.specs.declared.puts.Put.{Put}
use Rattle.ca_undo.specs.declared.old_sums.LastOld.{LastOld}

-- the old value that was kept last is of this item
abbrev pub IsTop : List Put → ℕ → ℕ → ℕ → Type 0
IsTop [] n f i = ⊥
IsTop (o ∷ os) n f i = (o.object ≡ n) × (o.field ≡ f) × (o.item ≡ i)

-- what is at hand, if it tells an object, is the old value that was kept last, and one of a single value
abbrev pub IsHand : LastOld → List Put → Type 0
IsHand d os = d.object < 2 ^ 32 → IsTop os d.object d.field 0
