use Rattle.std.proofs.Common.{◌≡◌, ◌≤◌, ◌+◌, drop}
use Rattle.ca_model.specs.Slots.{slots_len, start_slots}
use Rattle.ca_model.proofs.value.size_within.Given as goal

-- the fields so far hold `total` values
abbrev pub invariant-loop-field : goal.invariant-loop-field
invariant-loop-field l = (l.total ≤ l.room) × (slots_len (start_slots l.fields) ≡ l.total + slots_len (start_slots (drop l.field-index l.fields)))
