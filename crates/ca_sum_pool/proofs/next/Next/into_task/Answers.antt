use Rattle.std.proofs.Common.{◌≡◌, IfOk, sym, subst}
use Rattle.ca_logs.specs.declared.log.Task.{Task}
use Rattle.ca_sum_pool.specs.declared.next.Next.{Next}
use Rattle.ca_sum_pool.specs.Parts.{next_task}
use Rattle.ca_sum_pool.proofs.next.Next.into_task.Goals as goal

pub returns-in-Call : goal.returns-in-Call
returns-in-Call c = subst (λ (n : Next). IfOk c.task_of.result (λ (t : Task). t ≡ next_task n)) (sym c.in-Call.is) c.task_of.ensures
