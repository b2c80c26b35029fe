use Rattle.std.proofs.Common.{◌-◌, ◌∙◌, ℕ, Some, ap, sym}
use Rattle.ca_workers.specs.clauses.Ahead.{with_steps}
use Rattle.ca_workers.proofs.opening.with_steps.Goals as goal

pub returns-in-Some : goal.returns-in-Some
returns-in-Some c = ap Some (c.saturating_sub-steps.ensures ∙ ap (λ (k : ℕ). c.args.left - k) c.saturating_sub-still.ensures) ∙ sym (ap (with_steps c.args.left c.args.rest) c.in-Some.is)

pub returns-in-None : goal.returns-in-None
returns-in-None c = sym (ap (with_steps c.args.left c.args.rest) c.in-None.is)
