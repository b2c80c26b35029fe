use Rattle.std.proofs.Common.{ap}
use Rattle.ca_logs.specs.Entries.{task_after}
use Rattle.ca_sum_pool.proofs.next.task_of.Goals as goal

pub returns : goal.returns
returns c = ap (task_after 0) c.in_ok-copy.ensures
