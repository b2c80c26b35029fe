use Rattle.std.proofs.Common.{◌≡◌, drop}
use Rattle.ca_replica.specs.Adding.{added_object}
use Rattle.ca_replica.proofs.adding.add_object.Given as goal

abbrev pub invariant-fields : goal.invariant-fields
invariant-fields l = added_object (drop l.field-index l.written) l.number l.copy l.heap ≡ added_object l.written l.number l.copy l.fn.heap
