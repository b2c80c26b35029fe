use Rattle.std.proofs.Common.{◌≤◌, ◌-◌, length}
use Rattle.ca_program.specs.View.{program_view}
use Rattle.ca_sections.proofs.Locking.{TellLocks}
use Rattle.ca_sections.proofs.rows.lock_row.Given as goal

abbrev pub invariant-ops : goal.invariant-ops
invariant-ops l = record {
  told : TellLocks (program_view l.program) l.extent.written l.row.items;
  few : length l.row.items ≤ l.most;
}

abbrev pub decreases-ops : goal.decreases-ops
decreases-ops l = l.most - length l.row.items
