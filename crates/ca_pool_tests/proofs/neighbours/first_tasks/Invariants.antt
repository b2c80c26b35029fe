use Rattle.std.proofs.Common.{◌≡◌, ◌<◌, All}
use Rattle.ca_logs.specs.declared.log.Task.{Task}
use Rattle.ca_cells.specs.Rounds.{MayRun}
use Rattle.ca_cells.specs.declared.rule.Given.{Given}
use Rattle.ca_counters.specs.Counters.{IsSetFor, operation}
use Rattle.ca_pool_tests.proofs.neighbours.first_tasks.Given as goal

abbrev pub invariant-tasks : goal.invariant-tasks
invariant-tasks l = record {
  may_run : (key : Given) → IsSetFor (operation l.op) key l.objects → All (MayRun key) l.tasks.items;
  begins : All (λ (t : Task). t.after ≡ 0) l.tasks.items;
  there : l.object < l.objects;
}
