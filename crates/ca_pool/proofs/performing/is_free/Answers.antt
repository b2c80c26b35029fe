use Rattle.std.proofs.Common.{false, arith}
use Rattle.std.proofs.lemmas.Option.{slice_get_within}
use Rattle.ca_pool.proofs.performing.is_free.Goals as goal

pub returns-else-at-locks-clause-told : goal.returns-else-at-locks-clause-told
returns-else-at-locks-clause-told c = λ e. absurd (omega (arith, c.if-at-locks.false, slice_get_within c.args.locks.now c.args.op.0 false e))
