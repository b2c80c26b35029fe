use Rattle.std.proofs.Common.{◌≡◌, ap, arith}
use Rattle.ca_logs.specs.declared.log.Task.{Task}
use Rattle.ca_cells.specs.Rounds.{MayRun}
use Rattle.ca_pool_tests.proofs.FirstTasks.{may_count, one_at_end}
use Rattle.ca_pool_tests.proofs.collected.first_tasks.Goals as goal

pub loop-object-preserved : goal.loop-object-preserved
loop-object-preserved c = let q = c.in_ok-push.ensures.items in let i = c.loop-object.invariant in record {
  may_run = λ key set. one_at_end (MayRun key) _ _ _ q (i.may_run key set) (may_count key c.args.count c.loop-object.object _ set (omega arith) c.twice.ensures);
  begins = one_at_end (λ (t : Task). t.after ≡ 0) _ _ _ q i.begins (ap (λ (t : Task). t.after) c.twice.ensures);
}
