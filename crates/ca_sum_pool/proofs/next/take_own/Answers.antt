use Rattle.std.proofs.Common.{arith}
use Rattle.ca_deques.proofs.Grown.{shrunk_fit, last_fit, grown_weight}
use Rattle.ca_sum_pool.proofs.next.take_own.Goals as goal

pub returns-in-Some-clause-share : goal.returns-in-Some-clause-share
returns-in-Some-clause-share g c = shrunk_fit _ _ _ _ c.in-Some.ensures.items c.requires

pub returns-in-Some-clause-fits : goal.returns-in-Some-clause-fits
returns-in-Some-clause-fits g c = last_fit _ _ _ _ c.in-Some.ensures.items c.requires

pub returns-in-Some-clause-taken : goal.returns-in-Some-clause-taken
returns-in-Some-clause-taken g c = λ h. omega (arith, grown_weight _ _ _ c.in-Some.ensures.items h)
