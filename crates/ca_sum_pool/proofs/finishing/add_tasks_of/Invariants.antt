use Rattle.std.proofs.Common.{◌≡◌, ◌++◌, drop}
use Rattle.ca_sum_pool.specs.Parts.{tasks_of}
use Rattle.ca_sum_pool.proofs.finishing.add_tasks_of.Given as goal

abbrev pub invariant-loop-one : goal.invariant-loop-one
invariant-loop-one l = l.rest.items ++ tasks_of (drop l.one-index l.stuck) ≡ l.initial.rest.items ++ tasks_of l.stuck
