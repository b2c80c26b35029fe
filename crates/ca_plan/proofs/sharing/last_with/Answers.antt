use Rattle.std.proofs.Common.{sym, ◌∙◌}
use Rattle.ca_plan.proofs.sharing.last_with.Goals as goal

pub returns-then-tells : goal.returns-then-tells
returns-then-tells c = sym c.verdict.ensures ∙ c.tells.ensures c.if-tells.true
