use Rattle.std.proofs.Common.{sym, ap, ◌∙◌, subst, arith}
use Rattle.ca_meaning.specs.Multisets.{weight}
use Rattle.ca_order_laws.proofs.Weights.{weight_append}
use Rattle.ca_deques.specs.declared.rule.Hand.{Hand}
use Rattle.ca_deques.specs.Settings.{AllFit}
use Rattle.ca_deques.proofs.Grown.{front_fit, back_fit, both_fit, both_weigh, some_behind}
use Rattle.ca_deques.proofs.taking.open_several.Goals as goal

pub returns-in_default-clause-share : goal.returns-in_default-clause-share
returns-in_default-clause-share g c = subst (AllFit g.N.Round.setting) (sym c.in_default.ensures.kept) c.requires.fits

pub of-requires : goal.of-requires
of-requires g c = some_behind _ _ _ c.in-Ok.ensures.split (c.in-Ok.ensures.some (omega (arith, c.if-count-eq0.false)) c.requires.some)

pub push-requires : goal.push-requires
push-requires g c = subst (AllFit g.N.Round.setting) (sym c.of.ensures) (back_fit _ _ _ c.in-Ok.ensures.split g.N.Round.setting c.requires.fits)

pub returns-in-Err-clause-share : goal.returns-in-Err-clause-share
returns-in-Err-clause-share g c = let p = c.in-Ok.ensures.split in let same = sym c.into_tasks.ensures.same ∙ (c.in-Err.ensures.refused.0 ∙ c.of.ensures) in
    both_fit _ _ _ c.put_back.ensures g.N.Round.setting (front_fit _ _ _ p g.N.Round.setting c.requires.fits) (subst (AllFit g.N.Round.setting) (sym same) (back_fit _ _ _ p g.N.Round.setting c.requires.fits))

pub returns-in_default-push-clause-share : goal.returns-in_default-push-clause-share
returns-in_default-push-clause-share g c = front_fit _ _ _ c.in-Ok.ensures.split g.N.Round.setting c.requires.fits

pub returns-in_default-push-clause-pushed : goal.returns-in_default-push-clause-pushed
returns-in_default-push-clause-pushed g c = let t = c.in_default-push.ensures.pushed in λ h. omega (arith, both_weigh c.args.share.now.items c.last_of.new.list.items c.in-Ok.tasks.items c.in-Ok.ensures.split h, ap (λ (v : Hand). weight h v.pushed) t, weight_append h c.args.owner.now.hand.pushed c.of.result, ap (weight h) c.of.ensures)
