use Rattle.std.proofs.Common.{◌≡◌, IfOk, subst}
use Rattle.ca_verdicts.specs.declared.verdicts.Verdict.{Verdict}
use Rattle.ca_plan.proofs.Knowing.{verdict_on}
use Rattle.ca_plan.proofs.sharing.offence_on.Goals as goal

pub returns-in-Some : goal.returns-in-Some
returns-in-Some c = subst (λ (w : Verdict). IfOk c.on.result (λ v. v ≡ verdict_on c.args.a c.args.b w)) (rw c.in-Some.is at c.last_with.ensures) c.on.ensures
