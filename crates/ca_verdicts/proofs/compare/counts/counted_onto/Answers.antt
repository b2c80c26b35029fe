use Rattle.std.proofs.Common.{◌≡◌, ◌+◌, true, false, drop, refl, sym, ap, ◌∙◌, rules}
use Rattle.ca_norm.specs.Terms.{add}
use Rattle.ca_shared_terms.specs.Heavy.{is_heavy}
use Rattle.ca_verdicts.specs.Counts.{counted, counted_onto}
use Rattle.ca_verdicts.proofs.Counting.{onto_heavy, one_onto, no_more}
use Rattle.ca_verdicts.proofs.compare.counts.counted_onto.Goals as goal

pub loop-place-init : goal.loop-place-init
loop-place-init c = (refl, c.requires)

pub loop-place-preserved : goal.loop-place-preserved
loop-place-preserved c =
    let one = c.index-conditions-place.result in
    let more : c.in-Some.more ≡ add c.loop-place.sum (counted one) = search rules in
    let light : is_heavy c.in-Some.more ≡ false = search rules in
    (c.loop-place.invariant.0 ∙ one_onto c.loop-place.sum c.args.conditions.now c.loop-place.place one c.loop-place-test.true c.index-conditions-place.is ∙ ap (λ z. counted_onto z (drop (c.loop-place.place + 1) c.args.conditions.now)) (sym more), light)

pub returns-in-None : goal.returns-in-None
returns-in-None c =
    let one = c.index-conditions-place.result in
    let heavy : is_heavy (add c.loop-place.sum (counted one)) ≡ true = search rules in
    record {
      made = tt;
      light = tt;
      heavy = ap is_heavy (c.loop-place.invariant.0 ∙ one_onto c.loop-place.sum c.args.conditions.now c.loop-place.place one c.loop-place-test.true c.index-conditions-place.is)
          ∙ onto_heavy (add c.loop-place.sum (counted one)) (drop (c.loop-place.place + 1) c.args.conditions.now) heavy;
    }

pub returns : goal.returns
returns c = record {
  made = sym (c.loop-place.invariant.0 ∙ no_more c.loop-place.sum c.args.conditions.now c.loop-place.place c.loop-place-test.false);
  light = c.loop-place.invariant.1;
  heavy = tt;
}
