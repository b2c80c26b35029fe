use Rattle.std.proofs.Common.{◌≡◌, drop}
use Rattle.ca_program.specs.View.{program_view}
use Rattle.ca_replica.specs.Unsummed.{some_does_else}
use Rattle.ca_replica.proofs.deciding.some_does_else.Given as goal

abbrev pub invariant-ops : goal.invariant-ops
invariant-ops l = some_does_else (program_view l.program) l.written l.ops ≡ some_does_else (program_view l.program) l.written (drop l.op-index l.ops)
