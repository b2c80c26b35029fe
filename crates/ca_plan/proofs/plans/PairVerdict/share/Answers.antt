use Rattle.std.proofs.Common.{ap, ◌∙◌}
use Rattle.ca_plan.proofs.Knowing.{verdict_on}
use Rattle.ca_plan.proofs.plans.PairVerdict.share.Goals as goal

pub returns : goal.returns
returns c = ap (verdict_on c.self.inside.a c.self.inside.b) c.in_ok-verdict.ensures.cases ∙ c.self.view_is
