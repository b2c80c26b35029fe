use Rattle.std.proofs.Common.{◌≡◌, drop}
use Rattle.ca_section.specs.Offences.{is_written}
use Rattle.ca_replica.proofs.deciding.is_written.Given as goal

abbrev pub invariant-fields : goal.invariant-fields
invariant-fields l = is_written l.written l.field ≡ is_written (drop l.f-index l.written) l.field
