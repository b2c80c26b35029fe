use Rattle.std.proofs.Common.{◌≡◌, ◌<◌, ◌∙◌, true, false, sym, ap, length, drop, rules, subst, IfOk}
use Rattle.std.proofs.lemmas.Bool.{eqb-true}
use Rattle.std.specs.Prelude.{IfSome, IfNone}
use Rattle.ca_norm.specs.Terms.{PlainTerm}
use Rattle.ca_shared_terms.specs.Heavy.{is_heavy}
use Rattle.ca_verdicts.specs.Counts.{counted, counted_onto, count_of}
use Rattle.ca_verdicts.proofs.Counting.{some_there, from_first, none_counted, onto_heavy}
use Rattle.ca_verdicts.proofs.compare.counts.count_of.Goals as goal

pub returns-then-is_empty : goal.returns-then-is_empty
returns-then-is_empty c =
    let none : length c.args.conditions.now ≡ 0 = eqb-true (length c.args.conditions.now) 0 (sym c.is_empty.ensures ∙ c.if-is_empty.true) in
    record { made = c.in_ok-none.ensures ∙ sym (none_counted c.args.conditions.now none); light = ap is_heavy c.in_ok-none.ensures; heavy = tt }

pub counted_onto-requires : goal.counted_onto-requires
counted_onto-requires c = search rules

pub returns-in-Some : goal.returns-in-Some
returns-in-Some c =
    let some : 0 < length c.args.conditions.now = some_there c.args.conditions.now (sym c.is_empty.ensures ∙ c.if-is_empty.false) in
    let one : PlainTerm = c.index-conditions-0.result in
    let first : c.in-Some.first ≡ counted one = search rules in
    let is : counted_onto c.in-Some.first (drop 1 c.args.conditions.now) ≡ count_of c.args.conditions.now =
    ap (λ z. counted_onto z (drop 1 c.args.conditions.now)) first ∙ sym (from_first c.args.conditions.now one some c.index-conditions-0.is) in
    record {
      made = subst (λ z. IfOk c.counted_onto.result (λ o. IfSome o (λ t. t ≡ z))) is c.counted_onto.ensures.made;
      light = c.counted_onto.ensures.light;
      heavy = subst (λ z. IfOk c.counted_onto.result (λ o. IfNone o (is_heavy z ≡ true))) is c.counted_onto.ensures.heavy;
    }

pub returns-in-None : goal.returns-in-None
returns-in-None c =
    let some : 0 < length c.args.conditions.now = some_there c.args.conditions.now (sym c.is_empty.ensures ∙ c.if-is_empty.false) in
    let one : PlainTerm = c.index-conditions-0.result in
    let heavy : is_heavy (counted one) ≡ true = search rules in
    record {
      made = tt;
      light = tt;
      heavy = ap is_heavy (from_first c.args.conditions.now one some c.index-conditions-0.is) ∙ onto_heavy (counted one) (drop 1 c.args.conditions.now) heavy;
    }
