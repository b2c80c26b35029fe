use Rattle.std.proofs.lemmas.Result.{err_from_is_err_and}
use Rattle.ca_descent.proofs.Exact.{no_memory}
use Rattle.ca_descent.proofs.Parts.{and_ok, and_failed, and_done}
use Rattle.ca_parse.proofs.ChainStatements.{statements_are}
use Rattle.ca_parse.proofs.MemberRules.{method_of_answer}
use Rattle.ca_parse.proofs.members.parse_method.Goals as goal

pub returns-in_err-params : goal.returns-in_err-params
returns-in_err-params c =
    let p = err_from_is_err_and c.from_residual.result c.from_residual.ensures.1 in record { answer = rw (p.1, p.2) (method_of_answer _ _ (and_failed _ c.in_err-params.ensures.answer)) }

pub returns-in_err-line : goal.returns-in_err-line
returns-in_err-line c =
    let p = err_from_is_err_and c.from_residual-in_err-line.result c.from_residual-in_err-line.ensures.1 in record { answer = rw (p.1, p.2) (no_memory) }

pub returns : goal.returns
returns c =
    record { answer = rw (c.in_ok-line.ensures, statements_are) (method_of_answer _ _ (and_ok c.in_ok-params.ensures.answer and_done)) }
