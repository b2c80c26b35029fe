use Rattle.std.proofs.Common.{◌≡◌, All}
use Rattle.ca_logs.specs.declared.log.Task.{Task}
use Rattle.ca_cells.specs.Rounds.{MayRun}
use Rattle.ca_cells.specs.declared.rule.Given.{Given}
use Rattle.ca_counters.specs.Counters.{IsSetFor, twice}
use Rattle.ca_pool_tests.proofs.collected.first_tasks.Given as goal

abbrev pub invariant-loop-object : goal.invariant-loop-object
invariant-loop-object l = record {
  may_run : (key : Given) → IsSetFor twice key l.count → All (MayRun key) l.tasks.items;
  begins : All (λ (t : Task). t.after ≡ 0) l.tasks.items;
}
