use Rattle.std.proofs.Common.{◌≡◌, ◌++◌, take}
use Rattle.ca_logs.specs.Entries.{loose_entries}
use Rattle.ca_round_order.proofs.Collecting.{timed_ran}
use Rattle.ca_round_order.proofs.order.add_loose.Given as goal

abbrev pub invariant-loop-entries : goal.invariant-loop-entries
invariant-loop-entries l = l.timed.items ≡ l.fn.timed.items ++ timed_ran (loose_entries (take l.entries-index l.loose))
