use Rattle.std.proofs.Common.{◌≡◌, ◌≤◌, ◌∙◌, ap, subst, arith, length, map}
use Rattle.ca_norm.specs.Terms.{shape}
use Rattle.ca_order.specs.Rankings.{rankings_of}
use Rattle.ca_order.specs.OrderSame.{OrderSame}
use Rattle.ca_order.proofs.Agreeing.{order_same_means}
use Rattle.ca_order.proofs.Found.{items, all_long, differs_is, same_is}
use Rattle.ca_order.proofs.answers.order_same.Goals as goal

pub first_apart-requires : goal.first_apart-requires
first_apart-requires c =
    let all : map items c.in_ok-orders.orders.items ≡ rankings_of c.in_ok-points.points.items = c.in_ok-orders.ensures ∙ ap rankings_of c.as_slice.ensures.value in
    rw (c.as_slice-2.ensures.value, c.as_slice-3.ensures.value) (all_long c.in_ok-points.points.items (shape c.args.first.now) (shape c.args.second.now) (map items c.in_ok-orders.orders.items) c.in_ok-points.ensures all)

pub returns-in-Some : goal.returns-in-Some
returns-in-Some c =
    let few : length c.in_ok-points.points.items ≤ 5 = omega (arith, c.if-len-gt5.false, c.len.ensures, c.in_ok-points.points.ok.0) in
    let all : map items c.in_ok-orders.orders.items ≡ rankings_of c.in_ok-points.points.items = c.in_ok-orders.ensures ∙ ap rankings_of c.as_slice.ensures.value in
    let told = rw (c.in-Some.is, c.as_slice-2.ensures.value, c.as_slice-3.ensures.value) at c.in_ok-apart.ensures in
    record {
      answer = (
        subst (λ z. length z ≤ 5) c.in_ok-points.ensures few,
        c.in_ok-points.ensures,
        (c.in-Some.place, differs_is c.in_ok-points.points.items (shape c.args.first.now) (shape c.args.second.now) c.in_ok-orders.orders.items c.in-Some.place c.swap_remove-ranks.result c.in-Some.one c.in-Some.other c.in_ok-points.ensures all c.swap_remove-ranks.ensures.value told),
      );
      means = λ v s i j e. cc;
    }

pub returns-in-None : goal.returns-in-None
returns-in-None c =
    let few : length c.in_ok-points.points.items ≤ 5 = omega (arith, c.if-len-gt5.false, c.len.ensures, c.in_ok-points.points.ok.0) in
    let all : map items c.in_ok-orders.orders.items ≡ rankings_of c.in_ok-points.points.items = c.in_ok-orders.ensures ∙ ap rankings_of c.as_slice.ensures.value in
    let told = rw (c.in-None.is, c.as_slice-2.ensures.value, c.as_slice-3.ensures.value) at c.in_ok-apart.ensures in
    let same : OrderSame (shape c.args.first.now) (shape c.args.second.now) = same_is c.in_ok-points.points.items (shape c.args.first.now) (shape c.args.second.now) c.in_ok-orders.orders.items c.in_ok-points.ensures all few told in
    record { answer = same; means = λ v s i j e. order_same_means v s (shape c.args.first.now) (shape c.args.second.now) i j same }
