use Rattle.std.proofs.Common.{length, ◌-◌}
use Rattle.ca_lines.proofs.names.Names.of.Given as goal

abbrev pub decreases-operations : goal.decreases-operations
decreases-operations l = length l.program.ops.items - l.n
