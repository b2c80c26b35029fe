use Rattle.std.proofs.Common.{take, ap, subst, ◌∙◌}
use Rattle.ca_logs.specs.Telling.{AreKept}
use Rattle.ca_logs.proofs.entries.cut.Goals as goal

pub returns-in-Some : goal.returns-in-Some
returns-in-Some c = λ es there. c.truncate.ensures.items ∙ ap (take c.args.count) (subst (λ k. AreKept k es) c.in-Some.is there)
