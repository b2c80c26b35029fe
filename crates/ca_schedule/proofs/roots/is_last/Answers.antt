use Rattle.std.proofs.Common.{arith}
use Rattle.ca_schedule.proofs.Alike.{last_there}
use Rattle.ca_schedule.proofs.roots.is_last.Goals as goal

pub returns : goal.returns
returns c = λ e. last_there c.args.ids.now c.args.id _ _ c.if-last-id.false (omega (arith, c.if-count-eq0.false))
