use Rattle.std.proofs.Common.{◌≡◌, false, is_some, sym, subst, ap, ◌∙◌}
use Rattle.std.proofs.lemmas.Result.{err_from_is_err_and}
use Rattle.ca_tree.specs.View.{expression_view}
use Rattle.ca_program.specs.Plain as program
use Rattle.ca_program.specs.View as resolved
use Rattle.ca_resolve.specs.declared.codes.TheConstants.{VALUE_METHOD_ACTS}
use Rattle.ca_resolve.specs.Judged.{Answers, broken_if, unless}
use Rattle.ca_resolve.specs.LocalView.{ty_view}
use Rattle.ca_resolve.proofs.Judging.{one_exit}
use Rattle.ca_types.specs.Rules.{prints_nothing}
use Rattle.ca_types.specs.Statements.{judge_printed}
use Rattle.ca_types.specs.clauses.View.{env_view}
use Rattle.ca_types.proofs.Answering.{within_ok, mapped_some}
use Rattle.ca_types.proofs.lines.check_print.Goals as goal

pub returns-in_err-value : goal.returns-in_err-value
returns-in_err-value c =
    let s = env_view c.args.walk.now in
    let e = expression_view c.args.e.now in
    let err = c.in_err-value.field-0.0 in
    let p = err_from_is_err_and c.from_residual.result c.from_residual.ensures.1 in
    let printed : Answers resolved.expression_view c.check_printed.result (judge_printed s.scope e) =
    subst (λ z. Answers resolved.expression_view c.check_printed.result (judge_printed z e)) c.scope.ensures c.check_printed.ensures in
    rw (p.1, p.2)
    (one_exit resolved.expression_view c.check_printed.result err (judge_printed s.scope e) (λ v. unless (prints_nothing s.result c.args.at) (program.print_value c.args.at.line v)) c.in_err-value.was printed)

pub returns : goal.returns
returns c =
    let s = env_view c.args.walk.now in
    let e = expression_view c.args.e.now in
    let at = c.args.at in
    let v = resolved.expression_view c.in_ok-value.value in
    let none : is_some s.result ≡ false = mapped_some ty_view c.args.walk.now.result ∙ (sym c.is_some.ensures ∙ c.if-is_some.false) in
    within_ok (judge_printed s.scope e) (λ v. unless (prints_nothing s.result at) (program.print_value at.line v)) v
    (ap (λ z. judge_printed z e) (sym c.scope.ensures) ∙ c.in_ok-value.ensures)
    ∙ ap (λ b. unless (broken_if b at VALUE_METHOD_ACTS) (program.print_value at.line v)) none
