use Rattle.std.proofs.Common.{arith}
use Rattle.ca_sum_pool.proofs.next.bring_some.Goals as goal

pub calls-preserved : goal.calls-preserved
calls-preserved c = let i = c.calls.invariant in record {
  moved = λ h. omega (arith, i.moved h, c.bring.ensures.moved h);
  fits = λ s all old. c.bring.ensures.fits s all (i.fits s all old);
}

pub returns-then-not-bring-clause-moved : goal.returns-then-not-bring-clause-moved
returns-then-not-bring-clause-moved c = λ h. omega (arith, c.calls.invariant.moved h, c.bring.ensures.moved h)

pub returns-then-not-bring-clause-fits : goal.returns-then-not-bring-clause-fits
returns-then-not-bring-clause-fits c = λ s all old. c.bring.ensures.fits s all (c.calls.invariant.fits s all old)
