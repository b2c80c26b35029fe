use Rattle.std.proofs.Common.{Some, ap, sym, ◌∙◌}
use Rattle.ca_logs.specs.Lasts.{last_of}
use Rattle.ca_logs.specs.Telling.{stopped_in, unboxed}
use Rattle.ca_logs.proofs.entries.Entries.stuck.Goals as goal

pub returns-in-Some : goal.returns-in-Some
returns-in-Some c = ap Some c.deref.ensures ∙ sym (ap unboxed c.in-Some.is) ∙ (c.self.invariant.stopped ∙ ap (λ es. stopped_in (last_of es)) c.self.view_is)

pub returns-in-None : goal.returns-in-None
returns-in-None c = sym (ap unboxed c.in-None.is) ∙ (c.self.invariant.stopped ∙ ap (λ es. stopped_in (last_of es)) c.self.view_is)
