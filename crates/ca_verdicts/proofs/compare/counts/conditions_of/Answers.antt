use Rattle.std.proofs.Common.{◌≡◌, ◌+◌, ◌++◌, List, drop, map, sym, ap, ◌∙◌, append_assoc, append-nil}
use Rattle.std.proofs.lemmas.List.{drop_all}
use Rattle.ca_norm.specs.Terms.{PlainTerm}
use Rattle.ca_symbolic.specs.declared.demand.Group.{Group}
use Rattle.ca_symbolic.specs.Demanded.{demand_of, demands_of}
use Rattle.ca_verdicts.specs.Counts.{conditions_of}
use Rattle.ca_verdicts.proofs.Counting.{groups_step}
use Rattle.ca_verdicts.proofs.compare.counts.conditions_of.Goals as goal

pub loop-group-preserved : goal.loop-group-preserved
loop-group-preserved c =
    let k = c.args.key.now in
    let g : Group = c.group-item.result in
    let own : List PlainTerm = conditions_of k (map (demand_of g.guard) g.items.items) in
    let rest : List PlainTerm = conditions_of k (demands_of (drop (c.loop-group.group-index + 1) c.args.groups.now)) in
    let put : c.add_conditions.new.conditions.items ≡ c.loop-group.conditions.items ++ own = c.in_ok-add_conditions.ensures ∙ ap (λ ds. c.loop-group.conditions.items ++ conditions_of k (map (demand_of g.guard) ds)) c.as_slice.ensures.value in
    c.loop-group.invariant
    ∙ ap (λ z. c.loop-group.conditions.items ++ z) (groups_step k c.args.groups.now c.loop-group.group-index g c.loop-group-test.true c.group-item.is)
    ∙ sym (append_assoc c.loop-group.conditions.items own rest) ∙ ap (λ z. z ++ rest) (sym put)

pub returns : goal.returns
returns c =
    sym (c.loop-group.invariant ∙ ap (λ zs. c.loop-group.conditions.items ++ conditions_of c.args.key.now (demands_of zs)) (drop_all c.loop-group.group-index c.args.groups.now c.loop-group-test.false)
    ∙ append-nil c.loop-group.conditions.items)
