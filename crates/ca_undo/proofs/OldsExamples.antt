-- Old values of puts into two fields in turn, and into items of an array.
use Rattle.std.specs.Prelude.{◌≡◌, ℕ, pos, List, [], ◌∷◌}
use Rattle.std.proofs.Common.{refl}
use Rattle.ca_model.specs.declared.value.Value.TheVariants.{Long}
use Rattle.ca_model.specs.declared.value.Slot.{Slot}
use Rattle.ca_model.specs.declared.value.Slot.TheVariants.{One, Many}
use Rattle.ca_undo.specs.declared.olds.Old.{Old}
use Rattle.ca_undo.specs.Olds.{olds_after}

-- two numbers and an array of two
abbrev slots : List Slot
slots = One (Long (pos 5)) ∷ One (Long (pos 7)) ∷ Many (Long (pos 8) ∷ Long (pos 9) ∷ []) ∷ []

abbrev old : ℕ → ℕ → ℕ → Old
old f i n = record { field = f; item = i; value = Long (pos n) }

first_kept : olds_after [] slots 0 0 ≡ old 0 0 5 ∷ []
first_kept = refl

-- the field is found behind another one
kept_once : olds_after (old 1 0 7 ∷ old 0 0 3 ∷ []) slots 0 0 ≡ old 1 0 7 ∷ old 0 0 3 ∷ []
kept_once = refl

-- an item that isn't the first one is found where it is the last one
item_kept_once : olds_after (old 2 1 3 ∷ []) slots 2 1 ≡ old 2 1 3 ∷ []
item_kept_once = refl

item_kept_again : olds_after (old 0 0 5 ∷ old 2 1 3 ∷ []) slots 2 1 ≡ old 2 1 9 ∷ old 0 0 5 ∷ old 2 1 3 ∷ []
item_kept_again = refl
