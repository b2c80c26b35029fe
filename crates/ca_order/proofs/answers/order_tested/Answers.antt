use Rattle.std.proofs.Common.{refl, sym, subst}
use Rattle.ca_norm.specs.Terms.{shape}
use Rattle.ca_order.specs.clauses.Seen.{AllKnown}
use Rattle.ca_order.proofs.answers.order_tested.Goals as goal

pub returns-then-is_seen : goal.returns-then-is_seen
returns-then-is_seen c =
    let t = shape c.args.first.now in
    let u = shape c.args.second.now in
    record {
      first = tt;
      second = tt;
      differ = tt;
      same = λ known. c.is_seen.ensures c.args.points.now t u (subst (AllKnown c.args.points.now t u) (sym c.as_slice.ensures.value) known) c.requires refl c.if-is_seen.true;
      kept = λ known. known;
    }
