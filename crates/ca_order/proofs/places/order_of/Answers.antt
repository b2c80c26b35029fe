use Rattle.std.proofs.Common.{◌++◌, sym, ap, ◌∙◌}
use Rattle.std.proofs.lemmas.List.{append-nil}
use Rattle.ca_order.proofs.Ending.{no_points, no_ranks}
use Rattle.ca_order.proofs.places.order_of.Goals.{then-loop-at-test+else-at-ranks, else-loop-at-test}
use Rattle.ca_order.proofs.places.order_of.Goals as goal

pub returns : goal.returns
returns c =
    sym (c.loop-at.invariant ∙ ap (λ z. c.loop-at.items.items ++ z) (elim c.loop-at-test.branch [
      | then-loop-at-test+else-at-ranks w ↦ no_ranks c.args.points.now c.args.ranks.now c.loop-at.at w.if-at-ranks.false
      | else-loop-at-test w ↦ no_points c.args.points.now c.args.ranks.now c.loop-at.at w.loop-at-test.false
    ]) ∙ append-nil c.loop-at.items.items)
