use Rattle.std.proofs.Common.{◌≡◌}
use Rattle.ca_sum_pool.proofs.part.Part.run_quota.Given as goal

abbrev pub invariant-loop : goal.invariant-loop
invariant-loop g l = l.self ≡ l.initial.self
