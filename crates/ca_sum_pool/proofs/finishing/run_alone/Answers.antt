use Rattle.std.proofs.Common.{subst}
use Rattle.ca_program.specs.View.{program_view}
use Rattle.ca_sum_pool.specs.Parts.{WentSo}
use Rattle.ca_sum_pool.proofs.Alone.{waits_alone, stops_alone, ran_alone}
use Rattle.ca_sum_pool.proofs.Did.{stuck_of}
use Rattle.ca_sum_pool.proofs.finishing.run_alone.Goals as goal

pub returns-then-task : goal.returns-then-task
returns-then-task c = waits_alone (program_view c.args.program.now) c.args.extent.now c.args.frozen.now c.args.left c.args.task c.args.replica.now.copies c.args.rest.now.items c.push.new.self.items c.args.stuck.now.items c.args.steps.now c.if-task.true c.in_ok-push.ensures.items

pub returns-in_ok-pour_ops-in-Ok-Ran : goal.returns-in_ok-pour_ops-in-Ok-Ran
returns-in_ok-pour_ops-in-Ok-Ran c = let e = subst (WentSo (program_view c.args.program.now) c.args.extent.now c.args.frozen.now c.args.left c.args.task c.args.replica.now.copies c.run_task.new.replica.copies) c.in-Ok-Ran.field-0-is c.in-Ok-Ran.ensures in
    ran_alone (program_view c.args.program.now) c.args.extent.now c.args.frozen.now c.args.left c.args.task c.args.replica.now.copies c.run_task.new.replica.copies c.args.rest.now.items c.pour_ops.new.list.items c.args.stuck.now.items c.args.steps.now c.add_steps.result c.in-Ok-Ran.ops.items c.in-Ok-Ran.clock c.in-Ok-Ran.more
    e.0 e.1 c.in_ok-pour_ops-in-Ok-Ran.ensures.fits c.in_ok-pour_ops-in-Ok-Ran.ensures.poured c.add_steps.ensures

pub returns-in_ok-push-in-Ok-Stopped : goal.returns-in_ok-push-in-Ok-Stopped
returns-in_ok-push-in-Ok-Stopped c = let e = subst (WentSo (program_view c.args.program.now) c.args.extent.now c.args.frozen.now c.args.left c.args.task c.args.replica.now.copies c.run_task.new.replica.copies) c.in-Ok-Stopped.field-0-is c.in-Ok-Stopped.ensures in
    stops_alone (program_view c.args.program.now) c.args.extent.now c.args.frozen.now c.args.left c.args.task c.args.replica.now.copies c.run_task.new.replica.copies c.args.rest.now.items c.args.stuck.now.items c.push-in-Ok-Stopped.new.self.items c.args.steps.now (stuck_of c.args.task c.in-Ok-Stopped.why) e c.in_ok-push-in-Ok-Stopped.ensures.items
