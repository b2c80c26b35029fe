use Rattle.std.proofs.Common.{◌≡◌, ◌≤◌, ◌+◌, drop}
use Rattle.ca_logs.specs.Entries.{loose_entries}
use Rattle.ca_logs.specs.Laws.{steps_of}
use Rattle.ca_workers.proofs.reading.add_loose_steps.Given as goal

abbrev pub invariant-loop-at : goal.invariant-loop-at
invariant-loop-at l = record {
  few : l.sum ≤ l.most;
  all : l.sum + steps_of (loose_entries (drop l.at l.loose)) ≡ l.fn.taken + steps_of (loose_entries l.loose);
}
