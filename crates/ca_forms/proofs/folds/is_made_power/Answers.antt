use Rattle.std.proofs.Common.{is_some, sym, ap, ◌∙◌}
use Rattle.ca_forms.specs.Folds.{part_made}
use Rattle.ca_forms.proofs.Made.{not_one, other_power, same_power}
use Rattle.ca_forms.proofs.folds.is_made_power.Goals as goal

pub returns-then-powers-ne1 : goal.returns-then-powers-ne1
returns-then-powers-ne1 c = not_one c.args.op c.args.powers.now c.if-powers-ne1.true

pub returns-then-power-ne1 : goal.returns-then-power-ne1
returns-then-power-ne1 c = other_power c.args.op c.args.powers.now c.index-powers-0.result c.index-powers-0.is c.if-powers-ne1.false (λ e. c.if-power-ne1.true (ap (λ z. z.1) c.power.view_is ∙ e))

pub returns : goal.returns
returns c =
    c.is_fold_of.ensures ∙ ap (λ z. is_some (part_made c.args.op z.0)) c.power.view_is ∙ same_power c.args.op c.args.powers.now c.index-powers-0.result c.index-powers-0.is c.if-powers-ne1.false (sym (ap (λ z. z.1) c.power.view_is) ∙ c.if-power-ne1.false)
