use Rattle.std.proofs.Common.{◌≡◌, ◌++◌, drop, map}
use Rattle.ca_symbolic.specs.Demanded.{demand_of}
use Rattle.ca_verdicts.specs.Counts.{conditions_of}
use Rattle.ca_verdicts.proofs.compare.counts.add_conditions.Given as goal

abbrev pub invariant-loop-demand : goal.invariant-loop-demand
invariant-loop-demand l =
    l.fn.conditions.items ++ conditions_of l.key (map (demand_of l.guard) l.demands) ≡ l.conditions.items ++ conditions_of l.key (map (demand_of l.guard) (drop l.demand-index l.demands))
