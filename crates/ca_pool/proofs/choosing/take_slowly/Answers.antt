use Rattle.std.proofs.Common.{option_to_list, Option, ◌∙◌, ap, subst, arith}
use Rattle.ca_meaning.specs.Multisets.{weight}
use Rattle.ca_logs.specs.declared.log.Task.{Task}
use Rattle.ca_deques.specs.Settings.{AllFit}
use Rattle.ca_deques.proofs.Grown.{one_fits}
use Rattle.ca_pool.proofs.choosing.take_slowly.Goals as goal

pub pass_held-requires-clause-fits : goal.pass_held-requires-clause-fits
pass_held-requires-clause-fits g c = subst (λ (o : Option Task). AllFit g.N.Round.setting (option_to_list o)) c.in-Some.is c.take_any.ensures.fits 0 c.in-Some.task (omega arith)

pub returns-in-Some-clause-same : goal.returns-in-Some-clause-same
returns-in-Some-clause-same g c = c.pass_held.ensures.same ∙ c.take_any.ensures.same

pub returns-in-Some-clause-keys : goal.returns-in-Some-clause-keys
returns-in-Some-clause-keys g c = c.pass_held.ensures.keys ∙ c.take_any.ensures.keys

pub returns-in-Some-clause-fits : goal.returns-in-Some-clause-fits
returns-in-Some-clause-fits g c = one_fits _ _ c.pass_held.ensures.fits

pub returns-in-Some-clause-taken : goal.returns-in-Some-clause-taken
returns-in-Some-clause-taken g c = let t = c.take_any.ensures in λ h. omega (arith, t.taken h, ap (weight h) t.pushed, ap (λ (o : Option Task). weight h (option_to_list o)) c.in-Some.is, c.pass_held.ensures.moved h)

pub returns-in-None-clause-taken : goal.returns-in-None-clause-taken
returns-in-None-clause-taken g c = let t = c.take_any.ensures in λ h. omega (arith, t.taken h, ap (weight h) t.pushed, ap (λ (o : Option Task). weight h (option_to_list o)) c.in-None.is)

pub returns-in-None-clause-none : goal.returns-in-None-clause-none
returns-in-None-clause-none g c = λ _. let n = c.take_any.ensures.none c.in-None.is in (n.1, n.2)
