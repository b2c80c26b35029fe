use Rattle.std.proofs.Common.{◌≡◌, ◌++◌, drop}
use Rattle.ca_pool.specs.Gathered.{loose_tasks}
use Rattle.ca_pool.proofs.gathering.add_loose.Given as goal

abbrev pub invariant-loop-entries : goal.invariant-loop-entries
invariant-loop-entries l = l.rest.items ++ loose_tasks (drop l.entries-index l.loose) ≡ l.initial.rest.items ++ loose_tasks l.loose
