use Rattle.std.proofs.Common.{◌≡◌, ◌++◌, ◌<◌, ◌^◌, List, length, ap, ◌∙◌, subst, rules}
use Rattle.ca_symbolic.specs.declared.demand.Group.{Group}
use Rattle.ca_symbolic.specs.Demanded.{demands_of}
use Rattle.ca_verdicts.proofs.JoinedGroups.{demands_append}
use Rattle.ca_verdicts.proofs.compare.orders.joined.Goals as goal

pub returns-then-few-clause-list : goal.returns-then-few-clause-list
returns-then-few-clause-list c =
    let items : c.append.new.self.items ≡ c.args.sooner.items ++ c.args.later.items = search rules in
    ap demands_of items ∙ demands_append c.args.sooner.items c.args.later.items

pub returns-then-few-clause-few : goal.returns-then-few-clause-few
returns-then-few-clause-few c = subst (λ (gs : List Group). length (demands_of gs) < 2 ^ 64) c.as_slice.ensures.value (c.are_few-few.ensures c.if-few.true)
