use Rattle.ca_norm.specs.Terms.{shape}
use Rattle.ca_order.proofs.Refuted.{refuted_by}
use Rattle.ca_order.proofs.tries.is_refuted.Goals as goal

pub returns-then-is_order : goal.returns-then-is_order
returns-then-is_order c =
    refuted_by c.args.points.now c.args.ranks.now (shape c.args.first.now) (shape c.args.second.now) c.differ.result (c.is_order.ensures.long c.if-is_order.true) (c.is_order.ensures.tested c.if-is_order.true) c.differ.ensures
