use Rattle.std.proofs.lemmas.Result.{err_from_is_err_and}
use Rattle.ca_descent.proofs.Parts.{and_ok, and_failed}
use Rattle.ca_parse.proofs.MemberRules.{declaration_answer}
use Rattle.ca_parse.proofs.whole.parse_declaration.Goals as goal

pub returns-in_err-rest : goal.returns-in_err-rest
returns-in_err-rest c =
    let p = err_from_is_err_and c.from_residual.result c.from_residual.ensures.1 in record { answer = rw (p.1, p.2) (declaration_answer (and_failed _ c.in_err-rest.ensures.answer)) }

pub returns-in_err-name : goal.returns-in_err-name
returns-in_err-name c =
    let p = err_from_is_err_and c.from_residual-in_err-name.result c.from_residual-in_err-name.ensures.1 in record { answer = rw (p.1, p.2) (declaration_answer (and_ok c.in_ok-rest.ensures.answer (and_failed _ c.in_err-name.ensures.answer))) }

pub returns : goal.returns
returns c = record { answer = declaration_answer (and_ok c.in_ok-rest.ensures.answer (and_ok c.in_ok-name.ensures.answer c.parse_class.ensures.answer)) }
