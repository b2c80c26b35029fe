use Rattle.std.proofs.Common.{◌≡◌, List, ℕ, ap, ◌∙◌, map, subst, IfOk}
use Rattle.std.proofs.lemmas.List.{take_all}
use Rattle.ca_order.proofs.Listing.{items, with_ranks, one_ranking}
use Rattle.ca_order.proofs.rankings.rankings.Goals as goal

pub loop-list-preserved : goal.loop-list-preserved
loop-list-preserved c =
    one_ranking c.ranking_of.result c.args.points.now c.loop-list.list-index c.list-item.result c.as_slice-list-items.result.now c.loop-list.out.items c.add.new.items.items c.loop-list-test.true c.list-item.is c.in_ok-add.ensures
    c.ranking_of.ensures.points (subst (λ (z : List ℕ). IfOk c.ranking_of.result (λ r. r.ranks.items ≡ z)) c.as_slice.ensures.value c.ranking_of.ensures.ranks) c.loop-list.invariant

pub returns : goal.returns
returns c =
    c.loop-list.invariant ∙ ap (λ z. map (with_ranks c.args.points.now) (map items z)) (take_all c.loop-list.list-index c.as_slice-list-items.result.now c.loop-list-test.false ∙ c.as_slice-list-items.ensures.value)
    ∙ ap (map (with_ranks c.args.points.now)) c.in_ok-lists.ensures
