use Rattle.std.proofs.lemmas.Result.{err_from_is_err_and}
use Rattle.ca_descent.proofs.Parts.{and_ok, and_failed, and_done}
use Rattle.ca_parse.proofs.MemberRules.{signature_answer}
use Rattle.ca_parse.proofs.members.parse_signature.Goals as goal

pub returns-in_err-rest : goal.returns-in_err-rest
returns-in_err-rest c =
    let p = err_from_is_err_and c.from_residual.result c.from_residual.ensures.1 in record { answer = rw (p.1, p.2) (signature_answer (and_failed _ c.in_err-rest.ensures.answer)) }

pub returns-in_err-params : goal.returns-in_err-params
returns-in_err-params c =
    let p = err_from_is_err_and c.from_residual-in_err-params.result c.from_residual-in_err-params.ensures.1 in record { answer = rw (p.1, p.2) (signature_answer (and_ok c.in_ok-rest.ensures.answer (and_failed _ c.in_err-params.ensures.answer))) }

pub returns-in_err-rest-2 : goal.returns-in_err-rest-2
returns-in_err-rest-2 c =
    let p = err_from_is_err_and c.from_residual-in_err-rest-2.result c.from_residual-in_err-rest-2.ensures.1 in record { answer = rw (p.1, p.2) (signature_answer (and_ok c.in_ok-rest.ensures.answer (and_ok c.in_ok-params.ensures.answer (and_failed _ c.in_err-rest-2.ensures.answer)))) }

pub returns-in_err-body : goal.returns-in_err-body
returns-in_err-body c =
    let p = err_from_is_err_and c.from_residual-in_err-body.result c.from_residual-in_err-body.ensures.1 in record { answer = rw (p.1, p.2) (signature_answer (and_ok c.in_ok-rest.ensures.answer (and_ok c.in_ok-params.ensures.answer (and_ok c.in_ok-rest-2.ensures.answer (and_failed _ c.in_err-body.ensures.answer))))) }

pub returns : goal.returns
returns c = record { answer = signature_answer (and_ok c.in_ok-rest.ensures.answer (and_ok c.in_ok-params.ensures.answer (and_ok c.in_ok-rest-2.ensures.answer (and_ok c.in_ok-body.ensures.answer and_done)))) }
