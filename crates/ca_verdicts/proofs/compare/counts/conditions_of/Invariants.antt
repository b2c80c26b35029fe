use Rattle.std.proofs.Common.{◌≡◌, ◌++◌, drop}
use Rattle.ca_symbolic.specs.Demanded.{demands_of}
use Rattle.ca_verdicts.specs.Counts.{conditions_of}
use Rattle.ca_verdicts.proofs.compare.counts.conditions_of.Given as goal

abbrev pub invariant-loop-group : goal.invariant-loop-group
invariant-loop-group l = conditions_of l.key (demands_of l.groups) ≡ l.conditions.items ++ conditions_of l.key (demands_of (drop l.group-index l.groups))
