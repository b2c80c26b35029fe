use Rattle.std.proofs.lemmas.Result.{err_from_is_err_and}
use Rattle.ca_descent.proofs.Parts.{and_ok, and_failed, and_done}
use Rattle.ca_parse.proofs.ChainStatements.{statements_are}
use Rattle.ca_parse.proofs.TextRules.{program_answer}
use Rattle.ca_parse.proofs.whole.parse_program.Goals as goal

pub returns-in_err-classes : goal.returns-in_err-classes
returns-in_err-classes c =
    let p = err_from_is_err_and c.from_residual.result c.from_residual.ensures.1 in record { answer = rw (p.1, p.2) (program_answer (and_failed _ c.in_err-classes.ensures.answer)) }

pub returns-in_err-rest : goal.returns-in_err-rest
returns-in_err-rest c =
    let p = err_from_is_err_and c.from_residual-in_err-rest.result c.from_residual-in_err-rest.ensures.1 in record { answer = rw (p.1, p.2) (program_answer (and_ok c.in_ok-classes.ensures.answer (and_failed _ c.in_err-rest.ensures.answer))) }

pub returns-in_err-rest-2 : goal.returns-in_err-rest-2
returns-in_err-rest-2 c =
    let p = err_from_is_err_and c.from_residual-in_err-rest-2.result c.from_residual-in_err-rest-2.ensures.1 in record { answer = rw (p.1, p.2) (program_answer (and_ok c.in_ok-classes.ensures.answer (and_ok c.in_ok-rest.ensures.answer (and_failed _ c.in_err-rest-2.ensures.answer)))) }

pub returns-in_err-rest-3 : goal.returns-in_err-rest-3
returns-in_err-rest-3 c =
    let p = err_from_is_err_and c.from_residual-in_err-rest-3.result c.from_residual-in_err-rest-3.ensures.1 in record { answer = rw (p.1, p.2) (program_answer (and_ok c.in_ok-classes.ensures.answer (and_ok c.in_ok-rest.ensures.answer (and_ok c.in_ok-rest-2.ensures.answer (and_failed _ c.in_err-rest-3.ensures.answer))))) }

pub returns-in_err-rest-4 : goal.returns-in_err-rest-4
returns-in_err-rest-4 c =
    let p = err_from_is_err_and c.from_residual-in_err-rest-4.result c.from_residual-in_err-rest-4.ensures.1 in record { answer = rw (p.1, p.2) (program_answer (and_ok c.in_ok-classes.ensures.answer (and_ok c.in_ok-rest.ensures.answer (and_ok c.in_ok-rest-2.ensures.answer (and_ok c.in_ok-rest-3.ensures.answer (and_failed _ c.in_err-rest-4.ensures.answer)))))) }

pub returns-in_err-main : goal.returns-in_err-main
returns-in_err-main c =
    let p = err_from_is_err_and c.from_residual-in_err-main.result c.from_residual-in_err-main.ensures.1 in record { answer = rw (p.1, p.2) (program_answer (and_ok c.in_ok-classes.ensures.answer (and_ok c.in_ok-rest.ensures.answer (and_ok c.in_ok-rest-2.ensures.answer (and_ok c.in_ok-rest-3.ensures.answer (and_ok c.in_ok-rest-4.ensures.answer (and_failed _ c.in_err-main.ensures.answer))))))) }

pub returns : goal.returns
returns c =
    record { answer = rw statements_are (program_answer (and_ok c.in_ok-classes.ensures.answer (and_ok c.in_ok-rest.ensures.answer (and_ok c.in_ok-rest-2.ensures.answer (and_ok c.in_ok-rest-3.ensures.answer (and_ok c.in_ok-rest-4.ensures.answer (and_ok c.in_ok-main.ensures.answer and_done))))))) }
