use Rattle.std.proofs.Common.{◌≡◌, ap, arith}
use Rattle.ca_logs.specs.declared.log.Task.{Task}
use Rattle.ca_cells.specs.Rounds.{MayRun}
use Rattle.ca_pool_tests.proofs.FirstTasks.{may_call, one_at_end}
use Rattle.ca_pool_tests.proofs.neighbours.first_tasks.Goals as goal

pub tasks-preserved : goal.tasks-preserved
tasks-preserved c = let q = c.in_ok-push.ensures.items in let i = c.tasks.invariant in record {
  may_run = λ key set. one_at_end (MayRun key) _ _ _ q (i.may_run key set) (may_call c.args.op key c.args.objects c.tasks.object _ set i.there c.requires.0 c.task_of.ensures);
  begins = one_at_end (λ (t : Task). t.after ≡ 0) _ _ _ q i.begins (ap (λ (t : Task). t.after) c.task_of.ensures);
  there = omega (arith, i.there, c.requires.1);
}
