use Rattle.std.proofs.lemmas.Result.{err_from_is_err_and}
use Rattle.ca_descent.proofs.Parts.{and_ok, and_failed}
use Rattle.ca_parse.proofs.AssignRules.{assign_line_answer}
use Rattle.ca_parse.proofs.Semicolons.{ended_answer}
use Rattle.ca_parse.specs.clauses.Closed.{stmt_view}
use Rattle.ca_parse.proofs.assigns.parse_assign_line.Goals as goal

pub returns-in_err-assign : goal.returns-in_err-assign
returns-in_err-assign c =
    let p = err_from_is_err_and c.from_residual.result c.from_residual.ensures.1 in record { answer = rw (p.1, p.2) (assign_line_answer (and_failed _ c.in_err-assign.ensures.answer)) }

pub returns : goal.returns
returns c = record { answer = assign_line_answer (and_ok c.in_ok-assign.ensures.answer (ended_answer stmt_view c.ended.result c.ended.ensures.answer)) }
