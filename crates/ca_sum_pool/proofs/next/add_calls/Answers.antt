use Rattle.std.proofs.Common.{sym, ap, subst, arith}
use Rattle.ca_meaning.specs.Multisets.{weight}
use Rattle.ca_deques.specs.Settings.{Fits}
use Rattle.ca_deques.proofs.Grown.{grown_fit, grown_weight, one_fits}
use Rattle.ca_sum_pool.proofs.Begun.{begun_first, call_fits}
use Rattle.ca_sum_pool.proofs.Did.{nothing_found}
use Rattle.ca_sum_pool.proofs.next.add_calls.Goals as goal

pub loop-call-smaller : goal.loop-call-smaller
loop-call-smaller c = let t = c.in-Some.ensures.took in omega (arith, t.0, t.2)

pub loop-call-preserved : goal.loop-call-preserved
loop-call-preserved c =
    let i = c.loop-call.invariant in
    let t = c.in-Some.ensures.took in
    let q = c.in_ok-push.ensures.items in
    let is = c.in_ok-task.ensures in
    record {
      fits = λ s all old. grown_fit s _ _ _ q (i.fits s all old) (one_fits s _ (subst (Fits s) (sym is) (call_fits s c.args.listed.now c.loop-call.at _ all t.1)));
      added = λ h. omega (arith, i.added h, begun_first h c.args.listed.now c.loop-call.at c.take_first.new.at c.args.end _ t.0 t.1 t.2, grown_weight _ _ _ q h, ap h is);
    }

pub returns-clause-fits : goal.returns-clause-fits
returns-clause-fits c = c.loop-call.invariant.fits

pub returns-clause-added : goal.returns-clause-added
returns-clause-added c = let none = c.take_first.ensures.none (nothing_found c.take_first.result c.in_default.not-Some) in λ h. omega (arith, c.loop-call.invariant.added h, ap (weight h) none)
