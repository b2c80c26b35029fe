use Rattle.std.proofs.Common.{◌≡◌, ◌++◌, map, length, ap, ◌∙◌, arith}
use Rattle.ca_symbolic.specs.Demanded.{Demanded, demand_of, demands_of}
use Rattle.ca_symbolic.proofs.Groups.{one_more}
use Rattle.ca_symbolic.proofs.demand.Demands.into_groups.Goals as goal

pub returns-clause-list : goal.returns-clause-list
returns-clause-list c =
    ap demands_of c.in_ok-push.ensures.items ∙ (one_more c.self.inside.closed.items _ ∙ ap (λ (d : Demanded). d.list) c.self.view_is)

pub returns-clause-few : goal.returns-clause-few
returns-clause-few c =
    let e : demands_of c.push.new.self.items ≡ demands_of c.self.inside.closed.items ++ map (demand_of c.self.inside.guard) c.self.inside.items.items =
    ap demands_of c.in_ok-push.ensures.items ∙ one_more c.self.inside.closed.items _ in
    omega (arith, ap length e, c.self.invariant.0, c.self.invariant.1)
