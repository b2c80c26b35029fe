use Rattle.std.proofs.Common.{◌≡◌, ◌≤◌, ◌+◌, length, drop}
use Rattle.ca_logs.specs.Entries.{loose_entries}
use Rattle.ca_pool.proofs.finishing.count_loose.Given as goal

abbrev pub invariant-loop-at : goal.invariant-loop-at
invariant-loop-at l = record {
  small : l.count ≤ l.most;
  counted : l.count + length (loose_entries (drop l.at l.loose)) ≡ length (loose_entries l.loose);
}
