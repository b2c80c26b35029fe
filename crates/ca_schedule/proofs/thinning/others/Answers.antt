use Rattle.std.proofs.Common.{◌<◌, length, arith}
use Rattle.ca_schedule.proofs.Fewer.{none_more, one_more}
use Rattle.ca_schedule.proofs.thinning.others.Goals as goal

pub loop-op-init : goal.loop-op-init
loop-op-init c = none_more c.args.all.now c.new-ops.result.items c.new-ops.ensures.items

pub loop-op-preserved-then-only_opens : goal.loop-op-preserved-then-only_opens
loop-op-preserved-then-only_opens c = c.loop-op.invariant

pub loop-op-preserved : goal.loop-op-preserved
loop-op-preserved c =
    let lt : c.loop-op.op-index < length c.args.all.now = omega arith in
    one_more c.args.all.now c.loop-op.ops.items c.push.new.self.items c.loop-op.op-index _ lt c.loop-op.invariant c.in_ok-push.ensures.items
