use Rattle.std.proofs.Common.{ap}
use Rattle.ca_symbolic.specs.States.{State}
use Rattle.ca_symbolic.proofs.walk.begin_else.Goals as goal

pub returns-clause-fork : goal.returns-clause-fork
returns-clause-fork c = ap (λ (s : State). record { condition = c.args.fork.condition; outer = c.args.fork.outer; other = s }) c.replace-first.ensures.value
