use Rattle.std.proofs.Common.{sym, ◌∙◌, take_all, arith}
use Rattle.ca_plan.proofs.Keeping.{one_more_same}
use Rattle.ca_plan.proofs.kept.same_ops.Goals as goal

pub loop-i-preserved : goal.loop-i-preserved
loop-i-preserved c = one_more_same c.args.a.now c.args.b.now c.loop-i.i _ (omega arith) (omega arith) c.if-a-i.false c.loop-i.invariant

pub returns : goal.returns
returns c = λ t. sym (take_all c.loop-i.i c.args.a.now (omega arith)) ∙ (c.loop-i.invariant ∙ take_all c.loop-i.i c.args.b.now (omega arith))
