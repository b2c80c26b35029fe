use Rattle.std.proofs.Common.{◌≡◌, ◌<◌, All}
use Rattle.ca_program.specs.View.{program_view}
use Rattle.ca_beside.specs.Beside.{present}
use Rattle.ca_logs.specs.declared.log.Task.{Task}
use Rattle.ca_logs.specs.Entries.{task_calls}
use Rattle.ca_workers.specs.clauses.Runs.{MayWait}
use Rattle.ca_workers.proofs.ToldOn.{GoingTold}
use Rattle.ca_workers.proofs.rounds.Rounds.tell_rounds.Given as goal

abbrev pub invariant-rounds : goal.invariant-rounds
invariant-rounds g l = record {
  going : GoingTold (program_view l.self.program.now) l.frozen (present l.frozen l.fn.beside) (task_calls l.fn.first.items) l.left l.fn.lines.items (present l.frozen l.beside) (task_calls l.waiting.items) l.still l.lines.items;
  waits : MayWait (program_view l.self.program.now) l.self.extent.now l.frozen (present l.frozen l.beside) (task_calls l.waiting.items);
  begins : All (λ (t : Task). t.after ≡ 0) l.waiting.items;
  quota : 0 < l.quota;
}

abbrev pub decreases-rounds : goal.decreases-rounds
decreases-rounds g l = l.still
