use Rattle.std.proofs.Common.{◌≡◌, ◌++◌, take}
use Rattle.ca_logs.specs.Entries.{entries_of}
use Rattle.ca_round_order.proofs.Collecting.{timed_ran}
use Rattle.ca_round_order.proofs.order.add_histories.Given as goal

abbrev pub invariant-loop-log : goal.invariant-loop-log
invariant-loop-log l = l.timed.items ≡ l.fn.timed.items ++ timed_ran (entries_of (take l.log-index l.logs))
