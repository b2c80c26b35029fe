use Rattle.std.proofs.Common.{◌∷◌, subst, IfOk, List, ℕ, ◌≡◌}
use Rattle.ca_order.proofs.Listing.{one_behind}
use Rattle.ca_order.proofs.rankings.add_each_behind.Goals as goal

pub loop-list-preserved : goal.loop-list-preserved
loop-list-preserved c =
    one_behind c.behind.result c.args.rank c.loop-list.list-index c.list-item.result c.args.lists.now c.args.out.now.items c.loop-list.out.items c.add.new.items.items c.loop-list-test.true c.list-item.is c.in_ok-add.ensures
    (subst (λ (z : List ℕ). IfOk c.behind.result (λ v. v.items ≡ c.args.rank ∷ z)) c.as_slice.ensures.value c.behind.ensures) c.loop-list.invariant
