use Rattle.std.proofs.Common.{rules, ◌≡◌, ◌∙◌, ap, map, subst}
use Rattle.std.specs.Prelude.{IfSome}
use Rattle.ca_forms.specs.Plain.{number_form}
use Rattle.ca_forms.specs.Rules.{gathered}
use Rattle.ca_verdicts.specs.clauses.Marks.{summed_up, condition_of}
use Rattle.ca_verdicts.proofs.Differences.{settled_of}
use Rattle.ca_verdicts.proofs.sums.sums_apart.Goals as goal

pub returns-clause-second : goal.returns-clause-second
returns-clause-second c =
    let sum : c.in_ok-one.other ≡ number_form (gathered (summed_up (map condition_of c.args.second.now) c.as_slice-2.result.now)) = search rules in
    subst (λ x. IfSome c.unless.result (λ q. q.1 ≡ x)) (sum ∙ ap (λ ms. number_form (gathered (summed_up (map condition_of c.args.second.now) ms))) c.as_slice-2.ensures.value) c.unless.ensures.second

pub returns-clause-same : goal.returns-clause-same
returns-clause-same c =
    let one : c.in_ok-one.one ≡ number_form (gathered (summed_up (map condition_of c.args.first.now) c.as_slice.result.now)) = search rules in
    let other : c.in_ok-one.other ≡ number_form (gathered (summed_up (map condition_of c.args.second.now) c.as_slice-2.result.now)) = search rules in
    settled_of c.unless.result c.same-alike.result c.in_ok-one.one c.in_ok-one.other _ _ c.unless.ensures.same c.same-alike.ensures.0
    (one ∙ ap (λ ms. number_form (gathered (summed_up (map condition_of c.args.first.now) ms))) c.as_slice.ensures.value)
    (other ∙ ap (λ ms. number_form (gathered (summed_up (map condition_of c.args.second.now) ms))) c.as_slice-2.ensures.value)
