use Rattle.std.proofs.Common.{◌≡◌, ◌++◌, List, IfOk, subst}
use Rattle.ca_logs.specs.declared.log.Task.{Task}
use Rattle.ca_workers.proofs.tasks.all_tasks.Goals as goal

pub returns : goal.returns
returns c = subst (λ (ts : List Task). IfOk c.together.result (λ all. all.items ≡ ts ++ c.args.tasks.items)) c.in_ok-first.ensures c.together.ensures
