use Rattle.std.proofs.Common.{◌≡◌, take}
use Rattle.ca_model.specs.Slots.{start_slots}
use Rattle.ca_model.proofs.value.Slots.start.Given as goal

abbrev pub invariant-loop-field : goal.invariant-loop-field
invariant-loop-field l = l.items.items ≡ start_slots (take l.field-index l.fields)
