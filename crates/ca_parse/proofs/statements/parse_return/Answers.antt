use Rattle.std.proofs.lemmas.Result.{err_from_is_err_and}
use Rattle.ca_descent.proofs.Parts.{and_ok, and_failed}
use Rattle.ca_parse.proofs.StatementRules.{return_rest_answer}
use Rattle.ca_parse.proofs.Semicolons.{ended_exact}
use Rattle.ca_parse.proofs.statements.parse_return.Goals as goal

pub returns-in_err-value : goal.returns-in_err-value
returns-in_err-value c =
    let p = err_from_is_err_and c.from_residual.result c.from_residual.ensures.1 in record { answer = rw (p.1, p.2) (return_rest_answer _ (and_failed _ c.in_err-value.ensures.answer)) }

pub returns : goal.returns
returns c = record { answer = return_rest_answer _ (and_ok c.in_ok-value.ensures.answer (rw c.into_inner.ensures at (ended_exact c.line.ensures.answer))) }
