-- What is demanded so far, and under which condition the next demands come.
use Rattle.std.specs.Prelude.{List, [], ◌∷◌, ◌++◌, map, true}
use Rattle.ca_norm.specs.Terms.{PlainTerm, truth}
use Rattle.ca_symbolic.specs.declared.demand.DemandKind.{DemandKind as Kind}
use Rattle.ca_symbolic.specs.declared.demand.DemandKind.TheVariants as kind
use Rattle.ca_symbolic.specs.declared.demand.Demand.{Demand}
use Rattle.ca_symbolic.specs.declared.demand.Group.{Group}
use Rattle.ca_symbolic.specs.States.{DemandKind, not_null, in_range, calls, invokes, loops, sweeps, PlainDemand, demand}

pub record Demanded : Type 0 where
  pub guard : PlainTerm
  pub list : List PlainDemand

abbrev pub kind_of : Kind → DemandKind
kind_of kind.NotNull = not_null
kind_of (kind.InRange f) = in_range f
kind_of (kind.Calls m) = calls m
kind_of (kind.Invokes op) = invokes op
kind_of (kind.Loops site) = loops site
kind_of (kind.Sweeps f) = sweeps f

abbrev pub demand_of : PlainTerm → Demand → PlainDemand
demand_of g d = demand g (kind_of d.kind) d.parts.items

-- the demands of groups, each group under a condition of its own
abbrev pub demands_of : List Group → List PlainDemand
demands_of [] = []
demands_of (x ∷ xs) = map (demand_of x.guard) x.items.items ++ demands_of xs

-- nothing so far, and no condition
abbrev pub nothing_demanded : Demanded
nothing_demanded = record { guard = truth true; list = [] }

abbrev pub with_demands : Demanded → List PlainDemand → Demanded
with_demands d ds = record { guard = d.guard; list = d.list ++ ds }

-- the same demands, where the next ones come under another condition
abbrev pub under : Demanded → PlainTerm → Demanded
under d g = record { guard = g; list = d.list }
