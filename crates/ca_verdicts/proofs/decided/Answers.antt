use Rattle.std.proofs.Common.{sym, subst, ◌<◌, ◌^◌, length}
use Rattle.std.specs.Prelude.{IfOk}
use Rattle.ca_program.specs.View.{program_view}
use Rattle.ca_verdicts.specs.Orders.{first_order, second_order}
use Rattle.ca_verdicts.specs.Verdicts.{VerdictOf}
use Rattle.ca_verdicts.proofs.Fewer.{none_of_both, some_loop}
use Rattle.ca_verdicts.proofs.Offending.{not_commutes}
use Rattle.ca_verdicts.proofs.decided.Goals as goal

pub returns-in-Some : goal.returns-in-Some
returns-in-Some c = record {
  exact = λ written can. absurd (some_loop _ _ (sym c.in-Some.ensures) (none_of_both (program_view c.args.program.now) written c.args.a c.args.b can.loops));
  few = λ is. absurd (not_commutes _ is);
}

pub returns-in-Ok : goal.returns-in-Ok
returns-in-Ok c =
    let p = program_view c.args.program.now in
    record {
      exact = λ written can.
          subst (λ r. IfOk r (λ v. VerdictOf p written c.args.a c.args.b v)) c.in-Ok.is (c.compared.ensures.verdict written can);
      few = λ _. subst (λ r. IfOk r (λ _. (length (first_order p c.args.a c.args.b).demands < 2 ^ 64) × (length (second_order p c.args.a c.args.b).demands < 2 ^ 64))) c.in-Ok.is c.compared.ensures.few;
    }
