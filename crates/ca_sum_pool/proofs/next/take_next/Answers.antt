use Rattle.std.proofs.Common.{ap, ◌∙◌, arith}
use Rattle.ca_meaning.specs.Multisets.{weight}
use Rattle.ca_sum_pool.proofs.next.take_next.Goals as goal

pub returns-in-Some-clause-taken : goal.returns-in-Some-clause-taken
returns-in-Some-clause-taken g c = let o = c.open_now_and_then.ensures in λ h. omega (arith, o.pushed h, ap (weight h) o.taken, c.in-Some.ensures.taken h)

pub returns-in-None-clause-same : goal.returns-in-None-clause-same
returns-in-None-clause-same g c = c.take_elsewhere.ensures.same ∙ c.open_now_and_then.ensures.same

pub returns-in-None-clause-taken : goal.returns-in-None-clause-taken
returns-in-None-clause-taken g c = let o = c.open_now_and_then.ensures in let e = c.take_elsewhere.ensures in λ h. omega (arith, o.pushed h, ap (weight h) o.taken, c.in-None.ensures.taken h, e.taken h)

pub returns-in-None-clause-none : goal.returns-in-None-clause-none
returns-in-None-clause-none g c = c.take_elsewhere.ensures.none
