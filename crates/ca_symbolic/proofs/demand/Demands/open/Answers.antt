use Rattle.std.proofs.Common.{◌≡◌, List, [], ◌++◌, map, length, sym, ap, ap₂, ◌∙◌, arith, Global}
use Rattle.std.proofs.lemmas.Bool.{eqb-true}
use Rattle.std.proofs.lemmas.List.{nil_from_length}
use Rattle.std.specs.declared.vec.Vec.{Vec}
use Rattle.ca_norm.specs.Terms.{PlainTerm}
use Rattle.ca_symbolic.specs.declared.demand.Demand.{Demand}
use Rattle.ca_symbolic.specs.States.{PlainDemand}
use Rattle.ca_symbolic.specs.Demanded.{Demanded, demand_of, demands_of}
use Rattle.ca_symbolic.proofs.Groups.{opened, none_opened, still_few}
use Rattle.ca_symbolic.proofs.demand.Demands.open.Goals as goal

pub invariant_of-self : goal.invariant_of-self
invariant_of-self c =
    let e : demands_of c.push.new.self.items ++ map (demand_of c.replace-guard.new.dest) c.replace-items.new.dest.items ≡
    demands_of c.self.inside.closed.items ++ map (demand_of c.self.inside.guard) c.self.inside.items.items =
    opened c.self.inside.closed.items c.push.new.self.items _ c.replace-items.new.dest.items c.replace-guard.new.dest c.in_ok-push.ensures.items
    (ap (λ (v : Vec Demand Global). v.items) c.replace-items.ensures.after ∙ c.new.ensures.items)
    ∙ ap₂ (λ (g : PlainTerm) (v : Vec Demand Global). demands_of c.self.inside.closed.items ++ map (demand_of g) v.items) c.replace-guard.ensures.value c.replace-items.ensures.value in
    (omega (arith, ap length e, c.self.invariant.0), c.self.invariant.1)

pub returns-in_ok-push : goal.returns-in_ok-push
returns-in_ok-push c =
    let e : demands_of c.push.new.self.items ++ map (demand_of c.replace-guard.new.dest) c.replace-items.new.dest.items ≡
    demands_of c.self.inside.closed.items ++ map (demand_of c.self.inside.guard) c.self.inside.items.items =
    opened c.self.inside.closed.items c.push.new.self.items _ c.replace-items.new.dest.items c.replace-guard.new.dest c.in_ok-push.ensures.items
    (ap (λ (v : Vec Demand Global). v.items) c.replace-items.ensures.after ∙ c.new.ensures.items)
    ∙ ap₂ (λ (g : PlainTerm) (v : Vec Demand Global). demands_of c.self.inside.closed.items ++ map (demand_of g) v.items) c.replace-guard.ensures.value c.replace-items.ensures.value in
    ap₂ (λ (g : PlainTerm) (ds : List PlainDemand). record { guard = g; list = ds }) c.replace-guard.ensures.after (e ∙ ap (λ (d : Demanded). d.list) c.self.view_is)

pub invariant_of-self-in_err-push : goal.invariant_of-self-in_err-push
invariant_of-self-in_err-push c = (
  still_few c.self.inside.closed.items c.push.new.self.items c.replace-items.new.dest.items c.self.inside.items.items c.replace-guard.new.dest c.self.inside.guard c.self.inside.count
      c.in_err-push.ensures.items (ap (λ (v : Vec Demand Global). v.items) c.replace-items.ensures.after ∙ c.new.ensures.items) c.self.invariant.0,
  c.self.invariant.1,
)

pub invariant_of-self-else-not-is_empty : goal.invariant_of-self-else-not-is_empty
invariant_of-self-else-not-is_empty c =
    let v : Vec Demand Global = c.replace-items.result in
    let none : c.self.inside.items.items ≡ [] =
    sym (ap (λ (v : Vec Demand Global). v.items) c.replace-items.ensures.value) ∙ nil_from_length v.items (sym v.ok.0 ∙ eqb-true v.len 0 (sym c.is_empty.ensures ∙ c.if-not-is_empty.false)) in
    let e : demands_of c.self.inside.closed.items ++ map (demand_of c.replace-guard.new.dest) c.replace-items.new.dest.items ≡
    demands_of c.self.inside.closed.items ++ map (demand_of c.self.inside.guard) c.self.inside.items.items =
    none_opened c.self.inside.closed.items c.replace-items.new.dest.items c.self.inside.items.items c.replace-guard.new.dest c.self.inside.guard (ap (λ (v : Vec Demand Global). v.items) c.replace-items.ensures.after ∙ c.new.ensures.items) none in
    (omega (arith, ap length e, c.self.invariant.0), c.self.invariant.1)

pub returns-else-not-is_empty : goal.returns-else-not-is_empty
returns-else-not-is_empty c =
    let v : Vec Demand Global = c.replace-items.result in
    let none : c.self.inside.items.items ≡ [] =
    sym (ap (λ (v : Vec Demand Global). v.items) c.replace-items.ensures.value) ∙ nil_from_length v.items (sym v.ok.0 ∙ eqb-true v.len 0 (sym c.is_empty.ensures ∙ c.if-not-is_empty.false)) in
    let e : demands_of c.self.inside.closed.items ++ map (demand_of c.replace-guard.new.dest) c.replace-items.new.dest.items ≡
    demands_of c.self.inside.closed.items ++ map (demand_of c.self.inside.guard) c.self.inside.items.items =
    none_opened c.self.inside.closed.items c.replace-items.new.dest.items c.self.inside.items.items c.replace-guard.new.dest c.self.inside.guard (ap (λ (v : Vec Demand Global). v.items) c.replace-items.ensures.after ∙ c.new.ensures.items) none in
    ap₂ (λ (g : PlainTerm) (ds : List PlainDemand). record { guard = g; list = ds }) c.replace-guard.ensures.after (e ∙ ap (λ (d : Demanded). d.list) c.self.view_is)
