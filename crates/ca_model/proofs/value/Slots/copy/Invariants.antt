use Rattle.std.proofs.Common.{◌≡◌, take}
use Rattle.ca_model.proofs.value.Slots.copy.Given as goal

abbrev pub invariant-loop-slot : goal.invariant-loop-slot
invariant-loop-slot l = l.items.items ≡ take l.slot-index l.slots
