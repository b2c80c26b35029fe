use Rattle.std.proofs.lemmas.Result.{err_from_is_err_and}
use Rattle.ca_descent.proofs.Parts.{and_ok, and_failed, and_done}
use Rattle.ca_parse.proofs.MemberRules.{named_answer}
use Rattle.ca_parse.proofs.members.parse_named.Goals as goal

pub returns-in_err-name : goal.returns-in_err-name
returns-in_err-name c =
    let p = err_from_is_err_and c.from_residual.result c.from_residual.ensures.1 in record { answer = rw (p.1, p.2) (named_answer _ (and_failed _ c.in_err-name.ensures.answer)) }

pub returns-in_err-length : goal.returns-in_err-length
returns-in_err-length c =
    let p = err_from_is_err_and c.from_residual-in_err-length.result c.from_residual-in_err-length.ensures.1 in record { answer = rw (p.1, p.2) (named_answer _ (and_ok c.in_ok-name.ensures.answer (and_failed _ c.in_err-length.ensures.answer))) }

pub returns : goal.returns
returns c = record { answer = named_answer _ (and_ok c.in_ok-name.ensures.answer (and_ok c.in_ok-length.ensures.answer and_done)) }
