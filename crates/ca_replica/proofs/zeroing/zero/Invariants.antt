use Rattle.std.proofs.Common.{◌≡◌, drop}
use Rattle.ca_replica.specs.Zeroed.{zeroed}
use Rattle.ca_replica.proofs.zeroing.zero.Given as goal

abbrev pub invariant-fields : goal.invariant-fields
invariant-fields l = zeroed (drop l.field-index l.written) l.object ≡ zeroed l.fn.written l.fn.object
