use Rattle.std.proofs.Common.{◌∙◌, refl, sym}
use Rattle.ca_order.specs.Under.{rank_of_form}
use Rattle.ca_order.proofs.Scanning.{on_drop, at_end, form_here, form_behind}
use Rattle.ca_order.proofs.places.rank_of_form.Goals as goal

pub loop-place-init : goal.loop-place-init
loop-place-init c = refl

pub returns-then-has_form : goal.returns-then-has_form
returns-then-has_form c =
    sym (c.loop-place.invariant ∙ on_drop (λ r. rank_of_form r c.args.form.now) c.args.places.now c.loop-place.place-index c.place-item.result c.loop-place-test.true c.place-item.is
    ∙ form_here c.args.form.now c.place.inside.point c.place.inside.rank c.place-item.result _ c.place.view_is (sym c.has_form.ensures ∙ c.if-has_form.true))

pub loop-place-preserved : goal.loop-place-preserved
loop-place-preserved c =
    c.loop-place.invariant ∙ on_drop (λ r. rank_of_form r c.args.form.now) c.args.places.now c.loop-place.place-index c.place-item.result c.loop-place-test.true c.place-item.is
    ∙ form_behind c.args.form.now c.place-item.result _ (sym c.has_form.ensures ∙ c.if-has_form.false)

pub returns : goal.returns
returns c = sym (c.loop-place.invariant ∙ at_end (λ r. rank_of_form r c.args.form.now) c.args.places.now c.loop-place.place-index c.loop-place-test.false)
