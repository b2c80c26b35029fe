use Rattle.std.proofs.Common.{sym, append-nil}
use Rattle.ca_emit.specs.clauses.Seen.{methods_seen}
use Rattle.ca_emit.proofs.parallel.add_operation.Goals as goal

pub returns-in-Field : goal.returns-in-Field
returns-in-Field c = rw c.in-Field.is (sym (append-nil (methods_seen c.args.out.now.items)))
