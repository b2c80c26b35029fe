use Rattle.std.specs.Prelude.{Contains}
use Rattle.ca_program.specs.declared.program.OpId.{OpId}
use Rattle.ca_schedule.proofs.thinning.others.Given as goal

abbrev pub invariant-loop-op : goal.invariant-loop-op
invariant-loop-op l = (op : OpId) → Contains l.ops.items op → Contains l.all op
