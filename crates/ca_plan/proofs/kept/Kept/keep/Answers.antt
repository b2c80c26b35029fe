use Rattle.std.proofs.Common.{◌≡◌, ◌∙◌}
use Rattle.ca_plan.specs.Told.{shared}
use Rattle.ca_plan.proofs.Keeping.{one_more, told_with}
use Rattle.ca_plan.proofs.kept.Kept.keep.Goals as goal

pub returns-clause-kept : goal.returns-clause-kept
returns-clause-kept c = λ p kept told.
    let made : c.in_ok-judged.judged.value ≡ c.args.judged = c.in_ok-judged.ensures.ok in
    let same : c.in_ok-shared.shared.value ≡ c.in_ok-judged.judged.value = c.in_ok-shared.ensures.cases in
    record {
      extents = told_with p (shared c.args.self.now.all.items) _ c.args.judged (one_more c.args.self.now.all.items _ c.in_ok-shared.shared c.args.judged c.in_ok-push.ensures.items (same ∙ made)) kept.extents told;
      verdicts = kept.verdicts;
    }
