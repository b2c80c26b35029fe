use Rattle.std.proofs.Common.{slice_set, ap}
use Rattle.ca_logs.specs.declared.log.Task.{Task}
use Rattle.ca_deques.proofs.Places.{get_of_index}
use Rattle.ca_deques.proofs.taking.exchange.Goals as goal

pub returns-clause-put : goal.returns-clause-put
returns-clause-put c = ap (λ (t : Task). slice_set c.args.share.now.items c.args.at t) c.replace.ensures.after

pub returns-clause-took : goal.returns-clause-took
returns-clause-took c = rw c.replace.ensures.value (get_of_index c.args.share.now.items c.args.at _ c.requires c.index_mut.ensures.value)
