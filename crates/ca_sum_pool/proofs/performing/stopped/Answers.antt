use Rattle.std.proofs.Common.{ap}
use Rattle.ca_logs.specs.declared.log.Task.{Task}
use Rattle.ca_sum_pool.specs.declared.performing.Stuck.{Stuck}
use Rattle.ca_sum_pool.proofs.Did.{stuck_of}
use Rattle.ca_sum_pool.proofs.performing.stopped.Goals as goal

pub returns-in-Ok : goal.returns-in-Ok
returns-in-Ok c = ap (λ (t : Task). stuck_of t c.args.why) c.in-Ok.ensures
