use Rattle.std.proofs.Common.{List, ap, sym, subst, arith}
use Rattle.ca_meaning.specs.Multisets.{weight}
use Rattle.ca_logs.specs.declared.log.Task.{Task}
use Rattle.ca_deques.specs.Settings.{AllFit}
use Rattle.ca_deques.proofs.Grown.{no_weight, weight_turned, fits_turned}
use Rattle.ca_deques.proofs.taking.steal_behind.Goals as goal

pub put_behind-next-requires-clause-share : goal.put_behind-next-requires-clause-share
put_behind-next-requires-clause-share g c = subst (λ (ts : List Task). AllFit g.N.Round.setting ts) c.into_tasks.ensures.same c.in-Some.ensures.fits

pub returns-in-Some-clause-same : goal.returns-in-Some-clause-same
returns-in-Some-clause-same g c = c.put_behind-next.ensures.same

pub returns-in-Some-clause-keys : goal.returns-in-Some-clause-keys
returns-in-Some-clause-keys g c = c.in-Some.ensures.stole.keys

pub returns-in-Some-clause-share : goal.returns-in-Some-clause-share
returns-in-Some-clause-share g c = subst (λ (ts : List Task). AllFit g.N.Round.setting ts) (sym c.reverse.ensures.items) (fits_turned g.N.Round.setting c.put_behind-next.new.share.items c.put_behind-next.ensures.share)

pub returns-in-Some-clause-fits : goal.returns-in-Some-clause-fits
returns-in-Some-clause-fits g c = c.put_behind-next.ensures.fits

pub returns-in-Some-clause-moved : goal.returns-in-Some-clause-moved
returns-in-Some-clause-moved g c = λ h.
    let none = no_weight h c.args.share.now.items (omega (arith, c.if-len-gt0.false, c.len.ensures)) in
    let turned = weight_turned h c.put_behind-next.new.share.items in
    omega (arith, c.in-Some.ensures.stole.taken h, ap (weight h) c.into_tasks.ensures.same, none, c.put_behind-next.ensures.moved h, ap (weight h) c.reverse.ensures.items, turned)

pub returns-in-None-clause-keys : goal.returns-in-None-clause-keys
returns-in-None-clause-keys g c = c.in-None.ensures.stole.keys

pub returns-in-None-clause-moved : goal.returns-in-None-clause-moved
returns-in-None-clause-moved g c = λ h. omega (arith, c.in-None.ensures.stole.taken h)
