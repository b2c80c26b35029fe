use Rattle.std.proofs.Common.{◌≡◌, ap₂, rules, subst, IfOk}
use Rattle.std.specs.Prelude.{IfSome, IfNone, true}
use Rattle.ca_norm.specs.Terms.{PlainTerm, add}
use Rattle.ca_shared_terms.specs.Heavy.{is_heavy}
use Rattle.ca_verdicts.specs.Counts.{counted}
use Rattle.ca_verdicts.proofs.Counting.{light_made, light_light, light_heavy, one_heavy}
use Rattle.ca_verdicts.proofs.compare.counts.counted_more.Goals as goal

pub returns-in-Some : goal.returns-in-Some
returns-in-Some c =
    let sum : c.in_ok-sum.sum ≡ c.args.sum = search rules in
    let one : c.in-Some.one ≡ counted c.args.condition.now = search rules in
    let x : PlainTerm = add c.in_ok-sum.sum c.in-Some.one in
    let is : x ≡ add c.args.sum (counted c.args.condition.now) = ap₂ add sum one in
    record {
      made = subst (λ z. IfOk c.if_light.result (λ o. IfSome o (λ t. t ≡ z))) is (light_made c.if_light.result c.plus.result x c.if_light.ensures.made c.plus.ensures.made);
      light = light_light c.if_light.result c.plus.result x c.if_light.ensures.made c.plus.ensures.made c.plus.ensures.light;
      heavy = subst (λ z. IfOk c.if_light.result (λ o. IfNone o (is_heavy z ≡ true))) is (light_heavy c.if_light.result c.plus.result x c.if_light.ensures.large c.plus.ensures.large);
    }

pub returns-in-None : goal.returns-in-None
returns-in-None c =
    let heavy : is_heavy (counted c.args.condition.now) ≡ true = search rules in
    record { made = tt; light = tt; heavy = one_heavy c.args.sum c.args.condition.now heavy }
