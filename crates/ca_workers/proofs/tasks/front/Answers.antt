use Rattle.std.proofs.Common.{sym, arith}
use Rattle.std.proofs.lemmas.List.{take_all}
use Rattle.ca_workers.proofs.tasks.front.Goals as goal

pub returns-else-count-calls : goal.returns-else-count-calls
returns-else-count-calls c = sym (take_all c.args.count c.args.calls.now (omega arith))
