-- The verdict on a plain pair is that it commutes.
use Rattle.std.proofs.Common.{◌≡◌, ◌+◌, List, ◌++◌, false, Result, Ok, Err, IfOk, sym, ap, ap₂, ◌∙◌}
use Rattle.std.specs.Prelude.{◌||◌, slice_get}
use Rattle.std.specs.Option.{option_or}
use Rattle.ca_program.specs.declared.program.FieldId.{FieldId}
use Rattle.ca_program.specs.declared.program.OpId.{OpId}
use Rattle.ca_program.specs.Plain.{PlainProgram}
use Rattle.ca_sums.specs.Sums.{total}
use Rattle.ca_sums.proofs.Algebra.{alike_eq, total_append}
use Rattle.ca_forms.specs.Rules.{gathered}
use Rattle.ca_forms.proofs.Gathered.{gathered_same, add_flip as flip}
use Rattle.ca_symbolic.specs.States.{PlainDemand}
use Rattle.ca_symbolic.specs.Runs.{demanded_by}
use Rattle.ca_plain_laws.specs.PlainPairs.{IsPlainPair}
use Rattle.ca_plain_laws.proofs.Allowed.{plain_pairs_are_separable, plain_pairs_have_no_loops}
use Rattle.ca_plain_laws.proofs.Weights.{plain_pairs_are_light}
use Rattle.ca_plain_laws.proofs.Orders.{plain_pairs_look_same}
use Rattle.ca_verdicts.specs.declared.verdicts.Verdict.{Verdict}
use Rattle.ca_verdicts.specs.declared.verdicts.Verdict.TheVariants.{Commutes, Unproved}
use Rattle.ca_verdicts.specs.declared.verdicts.Reason.TheVariants.{NotSeparable, LoopForm, Large, FieldDiffers, DemandsDiffer}
use Rattle.ca_verdicts.specs.Keys.{Key}
use Rattle.ca_verdicts.specs.Demands.{conditions, demanded_at, SameSums}
use Rattle.ca_verdicts.specs.Orders.{fields_at, start_of, first_order, second_order}
use Rattle.ca_verdicts.specs.Verdicts.{VerdictOf}
use Rattle.ca_verdicts.specs.Laws.{SameVerdict}
use Rattle.ca_verdicts.proofs.FormsSame.{none_lost}
use Rattle.ca_verdicts.proofs.MarkSums.{conditions_append}
use Rattle.ca_verdicts.proofs.Unique.{same_verdict}

-- demands of two operations, in either order
demands_flip : (k : Key) (ds es : List PlainDemand) → demanded_at k (ds ++ es) ≡ demanded_at k (es ++ ds)
demands_flip k ds es =
    ap gathered (conditions_append k ds es)
    ∙ gathered_same (conditions k ds ++ conditions k es) (conditions k es ++ conditions k ds)
    (record { same = λ f. alike_eq (total_append f (conditions k ds) (conditions k es) ∙ flip (total f (conditions k ds)) (total f (conditions k es)) ∙ sym (total_append f (conditions k es) (conditions k ds))) })
    ∙ sym (ap gathered (conditions_append k es ds))

pub plain_commutes : (p : PlainProgram) (written : List FieldId) (a b : OpId) → IsPlainPair p written a b → VerdictOf p written a b Commutes
plain_commutes p written a b h =
    let fs = fields_at p (slice_get p.ops a.0) in
    let light = plain_pairs_are_light p written a b fs h in
    let same = plain_pairs_look_same p written a b fs h in
    let none = plain_pairs_have_no_loops p written a b h in
    let first : (first_order p a b).heavy ≡ false = ap₂ (λ x y. x || y) light.0.first light.0.second in
    let second : (second_order p a b).heavy ≡ false = ap₂ (λ x y. x || y) light.1.first light.1.second in
    let demands : SameSums (first_order p a b).demands (second_order p a b).demands =
    λ k. ap (λ es. demanded_at k (demanded_by p a 1 (start_of p a) ++ es)) same.second_demands
    ∙ demands_flip k (demanded_by p a 1 (start_of p a)) (demanded_by p b 2 (start_of p a))
    ∙ ap (λ es. demanded_at k (demanded_by p b 2 (start_of p a) ++ es)) (sym same.first_demands) in
    none_lost p written a b (record {
      light = record {
        can = record { separable = plain_pairs_are_separable p written a b h; loops = ap₂ option_or none.0 none.1 };
        light = ap₂ (λ x y. x || y) first second;
      };
      fields = same.forms;
      demands = demands;
    })

pub only_commutes : (v : Verdict) → SameVerdict v Commutes → v ≡ Commutes
only_commutes Commutes e = e
only_commutes (Unproved (NotSeparable x y z)) e = e
only_commutes (Unproved (LoopForm x)) e = e
only_commutes (Unproved Large) e = e
only_commutes (Unproved (FieldDiffers x y z)) e = e
only_commutes (Unproved (DemandsDiffer x y z w)) e = e

-- so a verdict on a plain pair is this one
pub plain_verdict : {E : Type 0} (p : PlainProgram) (written : List FieldId) (a b : OpId) → IsPlainPair p written a b → (r : Result Verdict E) → IfOk r (λ v. VerdictOf p written a b v) → IfOk r (λ v. v ≡ Commutes)
plain_verdict p written a b h (Ok v) e = only_commutes v (same_verdict p written a b v Commutes e (plain_commutes p written a b h))
plain_verdict p written a b h (Err m) e = tt
