use Rattle.std.proofs.Common.{arith}
use Rattle.ca_deques.proofs.Grown.{shrunk_fit, last_fit, grown_fit, grown_weight, popped}
use Rattle.ca_deques.proofs.taking.pour_ops.Goals as goal

pub loop-op-preserved : goal.loop-op-preserved
loop-op-preserved c = let i = c.loop-op.invariant in let p = popped c.args.clock _ _ _ c.in-Some.ensures.items in let q = c.in_ok-push.ensures.items in record {
  fits = λ s a b. let f = i.fits s a b in (shrunk_fit _ _ _ _ p f.0, grown_fit _ _ _ _ q f.1 (last_fit _ _ _ _ p f.0));
  poured = λ h. omega (arith, i.poured h, grown_weight _ _ _ p h, grown_weight _ _ _ q h);
}

pub returns-clause-fits : goal.returns-clause-fits
returns-clause-fits c = λ s a b. (c.loop-op.invariant.fits s a b).1
