use Rattle.std.proofs.Common.{slice_set, ap}
use Rattle.ca_logs.specs.declared.log.CellLog.{CellLog}
use Rattle.ca_pool.proofs.spreading.put.Goals as goal

pub returns : goal.returns
returns c = ap (λ (l : CellLog). slice_set c.args.all.now.items c.args.number l) c.replace-old.ensures.after
