use Rattle.std.proofs.Common.{◌≡◌, ◌++◌, take}
use Rattle.ca_round_order.proofs.Collecting.{timed_ran}
use Rattle.ca_round_order.proofs.order.add_entries.Given as goal

abbrev pub invariant-loop-entry : goal.invariant-loop-entry
invariant-loop-entry l = l.timed.items ≡ l.fn.timed.items ++ timed_ran (take l.entry-index l.kept)
