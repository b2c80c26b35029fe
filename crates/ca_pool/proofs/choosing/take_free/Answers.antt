use Rattle.std.proofs.Common.{◌∙◌, List, length, ap, arith}
use Rattle.ca_logs.specs.declared.log.Task.{Task}
use Rattle.ca_meaning.specs.Multisets.{weight}
use Rattle.ca_pool.proofs.choosing.take_free.Goals as goal

pub returns-then-is_ready-clause-same : goal.returns-then-is_ready-clause-same
returns-then-is_ready-clause-same g c = c.open_some.ensures.same

pub returns-then-is_ready-clause-taken : goal.returns-then-is_ready-clause-taken
returns-then-is_ready-clause-taken g c = let o = c.open_some.ensures in λ h. omega (arith, o.pushed h, ap (weight h) o.taken, c.newest.ensures.taken h)

pub returns-clause-same : goal.returns-clause-same
returns-clause-same g c = c.take_slowly.ensures.same ∙ c.open_some.ensures.same

pub returns-clause-taken : goal.returns-clause-taken
returns-clause-taken g c = let o = c.open_some.ensures in λ h. omega (arith, o.pushed h, ap (weight h) o.taken, c.take_slowly.ensures.taken h)

pub returns-then-is_ready-clause-none : goal.returns-then-is_ready-clause-none
returns-then-is_ready-clause-none g c = λ e. let some = c.is_ready.ensures c.if-is_ready.true in let none = ap (λ (ts : List Task). length ts) (c.newest.ensures.none e) in absurd (omega (arith, some, none))

pub returns-clause-none : goal.returns-clause-none
returns-clause-none g c = c.take_slowly.ensures.none
