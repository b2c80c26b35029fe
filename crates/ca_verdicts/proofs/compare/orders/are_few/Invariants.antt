use Rattle.std.proofs.Common.{◌≡◌, ◌+◌, ◌<◌, ◌^◌, length, drop}
use Rattle.ca_symbolic.specs.Demanded.{demands_of}
use Rattle.ca_verdicts.proofs.compare.orders.are_few.Given as goal

-- the demands that were counted and those to come are all of them
abbrev pub invariant-loop-group : goal.invariant-loop-group
invariant-loop-group l = (l.count + length (demands_of (drop l.group-index l.groups)) ≡ length (demands_of l.groups)) × (l.count < 2 ^ 64)
