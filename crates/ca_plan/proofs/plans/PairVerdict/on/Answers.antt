use Rattle.std.proofs.Common.{ap, ◌∙◌}
use Rattle.ca_plan.specs.Plans.{PairVerdict}
use Rattle.ca_plan.proofs.Knowing.{verdict_on}
use Rattle.ca_plan.proofs.plans.PairVerdict.on.Goals as goal

pub returns : goal.returns
returns c = ap (verdict_on c.args.a c.args.b) (c.in_ok-verdict.ensures.cases ∙ ap (λ (v : PairVerdict). v.verdict) c.self.view_is)
