-- When there is no room for an object.
use Rattle.std.proofs.Common.{◌≤◌, ◌<◌, ◌+◌, ◌⊎◌, List, length, inl, inr}
use Rattle.std.proofs.lemmas.Bool.{le-leb, lt-ltb, leb-true, ltb-true, or_left, or_right, or_cases}
use Rattle.std.specs.Prelude.{IsTrue}
use Rattle.ca_model.specs.declared.value.Slot.{Slot}
use Rattle.ca_model.specs.declared.value.Object.{Object}
use Rattle.ca_model.specs.Slots.{slots_len}
use Rattle.ca_model.specs.Heaps.{values_in, is_full}

-- a heap of the most objects is full
pub many_full : (h : List Object) (new : List Slot) → 1000000 ≤ length h → IsTrue (is_full h new)
many_full h new many = or_left _ _ (le-leb 1000000 (length h) many)

-- a heap is full for an object with which its values would be too many
pub large_full : (h : List Object) (new : List Slot) → 4000000 < values_in h + slots_len new → IsTrue (is_full h new)
large_full h new large = or_right _ _ (lt-ltb 4000000 (values_in h + slots_len new) large)

-- a heap is full by nothing else
pub full_by : (h : List Object) (new : List Slot) → IsTrue (is_full h new) → (1000000 ≤ length h) ⊎ (4000000 < values_in h + slots_len new)
full_by h new full = elim (or_cases _ _ full) [
  | inl many ↦ inl (leb-true _ _ many)
  | inr large ↦ inr (ltb-true _ _ large)
]
