use Rattle.ca_order.proofs.Seen.{stands_at, seen_same}
use Rattle.ca_order.proofs.answers.is_seen.Goals as goal

pub returns-then-one_class : goal.returns-then-one_class
returns-then-one_class c = λ ps t u known long many _.
    seen_same ps t u c.class-item.result c.as_slice.result.now c.args.ranks.now c.args.count c.as_slice-in-loop-class.result.now
    (known c.class-item.result (stands_at c.args.seen.now c.loop-class.class-index c.class-item.result c.loop-class-test.true c.class-item.is))
    c.as_slice.ensures.value c.as_slice-in-loop-class.ensures.value long many (c.one_class.ensures c.if-one_class.true)

pub returns : goal.returns
returns c = λ ps t u known long many told. cc
