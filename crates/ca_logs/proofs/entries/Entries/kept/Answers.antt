use Rattle.std.proofs.Common.{subst, ◌∙◌}
use Rattle.ca_logs.specs.Telling.{AreKept, told_in}
use Rattle.ca_logs.proofs.entries.Entries.kept.Goals as goal

pub returns-in-Some : goal.returns-in-Some
returns-in-Some c = c.as_slice.ensures.value ∙ (subst (λ k. AreKept k (told_in c.self.inside.told.value)) c.in-Some.is c.self.invariant.in_memory ∙ c.self.view_is)
