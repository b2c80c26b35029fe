use Rattle.std.proofs.Common.{◌≡◌, pos, ap, ap₂, ◌∙◌, rules, subst, IfOk}
use Rattle.std.specs.Prelude.{IfSome, IfNone, true}
use Rattle.ca_norm.specs.Terms.{PlainTerm, number, choose}
use Rattle.ca_shared_terms.specs.Heavy.{is_heavy}
use Rattle.ca_verdicts.specs.Counts.{counted}
use Rattle.ca_verdicts.proofs.Counting.{light_made, light_light, light_heavy}
use Rattle.ca_verdicts.proofs.compare.counts.counted.Goals as goal

pub returns : goal.returns
returns c =
    let own : c.in_ok-own.own ≡ c.args.condition.now = search rules in
    let one : c.in_ok-own.one ≡ number (pos 1) = search rules in
    let none : c.in_ok-own.none ≡ number (pos 0) = search rules in
    let x : PlainTerm = choose c.in_ok-own.own c.in_ok-own.one c.in_ok-own.none in
    let is : x ≡ counted c.args.condition.now = ap (λ z. choose z c.in_ok-own.one c.in_ok-own.none) own ∙ ap₂ (choose c.args.condition.now) one none in
    record {
      made = subst (λ z. IfOk c.if_light.result (λ o. IfSome o (λ t. t ≡ z))) is (light_made c.if_light.result c.choice.result x c.if_light.ensures.made c.choice.ensures.made);
      light = light_light c.if_light.result c.choice.result x c.if_light.ensures.made c.choice.ensures.made c.choice.ensures.light;
      heavy = subst (λ z. IfOk c.if_light.result (λ o. IfNone o (is_heavy z ≡ true))) is (light_heavy c.if_light.result c.choice.result x c.if_light.ensures.large c.choice.ensures.large);
    }
