use Rattle.std.proofs.Common.{◌∙◌, refl, sym}
use Rattle.ca_order.specs.Under.{first_of_rank}
use Rattle.ca_order.proofs.Scanning.{on_drop, at_end, first_here, first_behind}
use Rattle.ca_order.proofs.places.first_of_rank.Goals as goal

pub loop-place-init : goal.loop-place-init
loop-place-init c = refl

pub returns-then-place-rank : goal.returns-then-place-rank
returns-then-place-rank c =
    sym (c.loop-place.invariant ∙ on_drop (λ r. first_of_rank r c.args.point c.args.rank) c.args.places.now c.loop-place.place-index c.place-item.result c.loop-place-test.true c.place-item.is
    ∙ first_here c.args.point c.place.inside.point c.place.inside.rank c.args.rank c.place-item.result _ c.place.view_is c.if-place-rank.true)

pub loop-place-preserved : goal.loop-place-preserved
loop-place-preserved c =
    c.loop-place.invariant ∙ on_drop (λ r. first_of_rank r c.args.point c.args.rank) c.args.places.now c.loop-place.place-index c.place-item.result c.loop-place-test.true c.place-item.is
    ∙ first_behind c.args.point c.place.inside.point c.place.inside.rank c.args.rank c.place-item.result _ c.place.view_is c.if-place-rank.false

pub returns : goal.returns
returns c = sym (c.loop-place.invariant ∙ at_end (λ r. first_of_rank r c.args.point c.args.rank) c.args.places.now c.loop-place.place-index c.loop-place-test.false)
