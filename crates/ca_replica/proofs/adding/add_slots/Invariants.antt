use Rattle.std.proofs.Common.{◌≡◌, drop}
use Rattle.ca_replica.specs.Adding.{sums_in}
use Rattle.ca_replica.proofs.adding.add_slots.Given as goal

abbrev pub invariant-fields : goal.invariant-fields
invariant-fields l = sums_in (drop l.field-index l.written) l.copy.class l.copy.slots l.slots ≡ sums_in l.written l.copy.class l.copy.slots l.fn.slots
