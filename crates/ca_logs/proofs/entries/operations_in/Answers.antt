use Rattle.std.proofs.Common.{◌<◌, ◌≤◌, length, arith}
use Rattle.ca_logs.specs.Telling.{operation_in}
use Rattle.ca_logs.proofs.Seen.{one_more_seen, all_seen}
use Rattle.ca_logs.proofs.entries.operations_in.Goals as goal

pub loop-task-preserved : goal.loop-task-preserved
loop-task-preserved c =
    let i = c.loop-task.task-index in
    let lt : i < length c.args.tasks.now = omega arith in
    one_more_seen operation_in c.args.tasks.now c.loop-task.ops.items _ i c.task-item.result _ lt c.task-item.is c.in_ok-copy.ensures c.in_ok-push.ensures.items c.loop-task.invariant

pub returns : goal.returns
returns c =
    let le : length c.args.tasks.now ≤ c.loop-task.task-index = omega arith in
    all_seen operation_in c.args.tasks.now c.loop-task.ops.items c.loop-task.task-index le c.loop-task.invariant
