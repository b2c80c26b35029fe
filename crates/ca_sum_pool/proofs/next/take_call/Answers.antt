use Rattle.std.proofs.Common.{List, length, ap, arith}
use Rattle.ca_logs.specs.declared.log.Task.{Task}
use Rattle.ca_sum_pool.proofs.next.take_call.Goals as goal

pub returns-then-len-gt0-clause-none : goal.returns-then-len-gt0-clause-none
returns-then-len-gt0-clause-none c = λ _ none. absurd (omega (arith, c.if-len-gt0.true, c.len.ensures, c.args.share.now.ok.0, ap (λ (ts : List Task). length ts) none))

pub returns-clause-none : goal.returns-clause-none
returns-clause-none c = λ e _. c.take_first.ensures.none e
