use Rattle.std.proofs.Common.{◌≡◌, List, refl, sym, ◌∙◌, subst, arith, take_all}
use Rattle.std.proofs.lemmas.Bool.{both_ways}
use Rattle.std.specs.Prelude.{Contains}
use Rattle.ca_lists.proofs.Members.{has_nothing}
use Rattle.ca_plan.specs.Plans.{PairVerdict}
use Rattle.ca_verdicts.specs.declared.verdicts.Verdict.TheVariants.{Commutes}
use Rattle.ca_plan.proofs.Tested.{one_told, one_there}
use Rattle.ca_plan.proofs.marking.all_commute.Goals as goal

pub loop-pair-init : goal.loop-pair-init
loop-pair-init c = λ v k. absurd (has_nothing v k)

pub loop-pair-preserved : goal.loop-pair-preserved
loop-pair-preserved c = one_told c.pairs-pair-items.result.now c.loop-pair.pair-index c.pair-item.result (omega arith) c.pair-item.is c.loop-pair.invariant (sym c.verdict.ensures ∙ c.commutes.ensures.0 c.if-not-commutes.false)

pub returns-then-not-commutes : goal.returns-then-not-commutes
returns-then-not-commutes c = (
  λ t. absurd cc,
  λ all. absurd (both_ways c.commutes.result c.if-not-commutes.true (c.commutes.ensures.1 (c.verdict.ensures ∙ all c.pair-item.result (subst (λ z. Contains z c.pair-item.result) c.pairs-pair-items.ensures (one_there c.pairs-pair-items.result.now c.loop-pair.pair-index c.pair-item.result (omega arith) c.pair-item.is))))),
)

pub returns : goal.returns
returns c =
    (λ t. subst (λ (xs : List PairVerdict). (v : PairVerdict) → Contains xs v → v.verdict ≡ Commutes) c.pairs-pair-items.ensures (rw (take_all c.loop-pair.pair-index c.pairs-pair-items.result.now (omega arith)) at c.loop-pair.invariant), λ all. refl)
