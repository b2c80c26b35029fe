use Rattle.std.proofs.Common.{◌∙◌, refl, sym}
use Rattle.ca_order.specs.Under.{rank_of}
use Rattle.ca_order.proofs.Scanning.{on_drop, at_end, ranked_here, ranked_behind}
use Rattle.ca_order.proofs.places.rank_of.Goals as goal

pub loop-place-init : goal.loop-place-init
loop-place-init c = refl

pub returns-then-is_point : goal.returns-then-is_point
returns-then-is_point c =
    sym (c.loop-place.invariant ∙ on_drop (λ r. rank_of r c.args.point) c.args.places.now c.loop-place.place-index c.place-item.result c.loop-place-test.true c.place-item.is
    ∙ ranked_here c.args.point c.place.inside.point c.place.inside.rank c.place-item.result _ c.place.view_is (sym c.is_point.ensures ∙ c.if-is_point.true))

pub loop-place-preserved : goal.loop-place-preserved
loop-place-preserved c =
    c.loop-place.invariant ∙ on_drop (λ r. rank_of r c.args.point) c.args.places.now c.loop-place.place-index c.place-item.result c.loop-place-test.true c.place-item.is
    ∙ ranked_behind c.args.point c.place.inside.point c.place.inside.rank c.place-item.result _ c.place.view_is (sym c.is_point.ensures ∙ c.if-is_point.false)

pub returns : goal.returns
returns c = sym (c.loop-place.invariant ∙ at_end (λ r. rank_of r c.args.point) c.args.places.now c.loop-place.place-index c.loop-place-test.false)
