use Rattle.std.proofs.lemmas.Result.{err_from_is_err_and}
use Rattle.ca_descent.proofs.Parts.{and_ok, and_failed, and_done}
use Rattle.ca_parse.proofs.Semicolons.{ended_join}
use Rattle.ca_parse.proofs.endings.ended.Goals as goal

pub returns-in_err-rest : goal.returns-in_err-rest
returns-in_err-rest g c =
    let p = err_from_is_err_and c.from_residual.result c.from_residual.ensures.1 in record { answer = rw (p.1, p.2) (ended_join (and_failed _ c.in_err-rest.ensures.answer)) }

pub returns : goal.returns
returns g c = record { answer = ended_join (and_ok c.in_ok-rest.ensures.answer and_done) }
