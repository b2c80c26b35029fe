use Rattle.std.proofs.Common.{length, ap, subst, ◌∙◌}
use Rattle.ca_logs.specs.Lasts.{last_of}
use Rattle.ca_logs.specs.Telling.{StepsAre, clock_of, steps_of, told_in}
use Rattle.ca_logs.proofs.entries.Entries.mark.Goals as goal

pub returns : goal.returns
returns c = λ no_stop. record {
  count = c.self.invariant.many ∙ ap length c.self.view_is;
  told = ap (λ s. told_in s.value) c.of.ensures ∙ c.self.view_is;
  last = c.self.invariant.last ∙ ap (λ es. clock_of (last_of es)) c.self.view_is;
  all_steps = subst (λ es. StepsAre c.self.inside.steps (steps_of es)) c.self.view_is c.self.invariant.all_steps;
  no_stop = no_stop;
}
