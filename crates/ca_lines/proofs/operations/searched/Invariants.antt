use Rattle.std.proofs.Common.{length, ◌-◌, ◌<◌, ℕ}
use Rattle.ca_program.specs.View.{program_view}
use Rattle.ca_lines.specs.Named.{HasName}
use Rattle.ca_lines.proofs.operations.searched.Given as goal

abbrev pub invariant-operations : goal.invariant-operations
invariant-operations l = (k : ℕ) → k < l.n → HasName (program_view l.program) l.name k → ⊥

abbrev pub decreases-operations : goal.decreases-operations
decreases-operations l = length l.program.ops.items - l.n
