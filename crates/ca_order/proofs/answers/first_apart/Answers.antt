use Rattle.std.proofs.Common.{sym, ap, ◌∙◌, map, subst, arith, Some}
use Rattle.std.specs.Prelude.{Contains}
use Rattle.ca_norm.specs.Terms.{shape}
use Rattle.ca_order.specs.Answers.{SameUnder}
use Rattle.ca_order.specs.clauses.Seen.{AllKnown}
use Rattle.ca_order.proofs.Found.{items, item_in, stands_at, same_more, same_end}
use Rattle.ca_order.proofs.Seen.{none_known}
use Rattle.ca_order.proofs.answers.first_apart.Goals as goal

pub loop-place-init : goal.loop-place-init
loop-place-init c =
    let t = shape c.args.first.now in
    let u = shape c.args.second.now in
    (λ ls h. let l = h.1 in absurd (omega arith), subst (AllKnown c.args.points.now t u) (sym c.new-seen.ensures.items) (none_known c.args.points.now t u))

pub order_tested-requires : goal.order_tested-requires
order_tested-requires c =
    c.requires c.as_slice-ranks.result.now
    (subst (Contains (map items c.args.orders.now)) (sym c.as_slice-ranks.ensures.value) (item_in c.args.orders.now c.loop-place.place c.index-orders-place.result c.loop-place-test.true c.index-orders-place.is))

pub returns-in-Some : goal.returns-in-Some
returns-in-Some c = (
  c.as_slice-ranks.result.now,
  record {
    stands = stands_at c.args.orders.now c.loop-place.place c.index-orders-place.result c.loop-place-test.true c.index-orders-place.is ∙ ap Some (sym c.as_slice-ranks.ensures.value);
    same = c.loop-place.invariant.0;
    first = rw c.in-Some.is at c.in_ok-forms.ensures.first;
    second = rw c.in-Some.is at c.in_ok-forms.ensures.second;
    differ = rw c.in-Some.is at c.in_ok-forms.ensures.differ;
  },
)

pub loop-place-preserved : goal.loop-place-preserved
loop-place-preserved c =
    let ps = c.args.points.now in
    let t = shape c.args.first.now in
    let u = shape c.args.second.now in
    let same = rw c.in-None.is at c.in_ok-forms.ensures.same in
    let kept = rw c.in-None.is at c.in_ok-forms.ensures.kept in (
      same_more ps t u c.args.orders.now c.loop-place.place c.index-orders-place.result c.loop-place-test.true c.index-orders-place.is c.loop-place.invariant.0 (subst (SameUnder ps t u) c.as_slice-ranks.ensures.value (same c.loop-place.invariant.1)),
      kept c.loop-place.invariant.1,
    )

pub returns : goal.returns
returns c = same_end c.args.points.now (shape c.args.first.now) (shape c.args.second.now) c.args.orders.now c.loop-place.place c.loop-place-test.false c.loop-place.invariant.0
