use Rattle.std.proofs.Common.{◌≡◌, option_to_list, None, sym, ap, subst, ◌∙◌, arith}
use Rattle.ca_meaning.specs.Multisets.{weight}
use Rattle.ca_deques.specs.Settings.{AllFit}
use Rattle.ca_deques.proofs.Grown.{one_fits}
use Rattle.ca_sum_pool.specs.Parts.{begun, taken_of}
use Rattle.ca_sum_pool.proofs.Begun.{begun_first, call_fits}
use Rattle.ca_sum_pool.proofs.next.take_elsewhere.Goals as goal

pub take_any-requires : goal.take_any-requires
take_any-requires g c = c.open_calls.ensures.share

pub returns-in-Some-clause-fits : goal.returns-in-Some-clause-fits
returns-in-Some-clause-fits g c = let t = c.in-Some.ensures.took in
    one_fits g.N.Round.setting _ (call_fits g.N.Round.setting c.args.listed.now c.args.at.now _ c.requires.listed t.1)

pub returns-in-Some-clause-taken : goal.returns-in-Some-clause-taken
returns-in-Some-clause-taken g c = let t = c.in-Some.ensures.took in let o = c.open_calls.ensures in
    λ h. omega (arith, o.pushed h, ap (weight h) o.taken, begun_first h c.args.listed.now c.args.at.now c.take_call.new.at c.open_calls.new.end _ t.0 t.1 t.2)

pub returns-in-None-clause-same : goal.returns-in-None-clause-same
returns-in-None-clause-same g c = c.take_any.ensures.same ∙ c.open_calls.ensures.same

pub returns-in-None-clause-fits : goal.returns-in-None-clause-fits
returns-in-None-clause-fits g c = subst (λ t. AllFit g.N.Round.setting (option_to_list t)) (sym c.own_task.ensures) c.take_any.ensures.fits

pub returns-in-None-clause-taken : goal.returns-in-None-clause-taken
returns-in-None-clause-taken g c = let o = c.open_calls.ensures in let a = c.take_any.ensures in
    λ h. omega (arith, o.pushed h, ap (weight h) o.taken, a.taken h, ap (weight h) a.pushed, ap (λ k. weight h (begun c.args.listed.now k c.open_calls.new.end)) c.in-None.ensures.took, ap (λ t. weight h (option_to_list t)) c.own_task.ensures)

pub returns-in-None-clause-none : goal.returns-in-None-clause-none
returns-in-None-clause-none g c = λ e.
    let none : c.take_any.result ≡ None = sym c.own_task.ensures ∙ ap taken_of e in
    let shares = c.take_any.ensures.none none in
    (shares.1, ap (λ k. begun c.args.listed.now k c.open_calls.new.end) c.in-None.ensures.took ∙ c.take_call.ensures.none c.in-None.is shares.0, shares.2)
