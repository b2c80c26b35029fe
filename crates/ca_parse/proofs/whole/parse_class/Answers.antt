use Rattle.std.proofs.lemmas.Result.{err_from_is_err_and}
use Rattle.ca_descent.proofs.Exact.{sees_got, sees_head}
use Rattle.ca_descent.proofs.Parts.{and_ok, and_failed, and_done}
use Rattle.ca_expressions.specs.Terminals.{sign}
use Rattle.ca_parse.proofs.MemberRules.{forward_rest_answer, class_rest_answer}
use Rattle.ca_tree.specs.declared.token.Sign.TheVariants.{Semicolon as S_Semicolon}
use Rattle.ca_parse.proofs.whole.parse_class.Goals as goal

pub returns-in-Some : goal.returns-in-Some
returns-in-Some c = record { answer = forward_rest_answer _ (sees_head (sign S_Semicolon) c.in-Some.ensures.some) (and_ok (sees_got c.in-Some.ensures.some) and_done) }

pub returns-in_err-rest : goal.returns-in_err-rest
returns-in_err-rest c =
    let p = err_from_is_err_and c.from_residual.result c.from_residual.ensures.1 in record { answer = rw (p.1, p.2) (class_rest_answer _ c.in_default.ensures.none (and_failed _ c.in_err-rest.ensures.answer)) }

pub returns-in_err-rest-2 : goal.returns-in_err-rest-2
returns-in_err-rest-2 c =
    let p = err_from_is_err_and c.from_residual-in_err-rest-2.result c.from_residual-in_err-rest-2.ensures.1 in record { answer = rw (p.1, p.2) (class_rest_answer _ c.in_default.ensures.none (and_ok c.in_ok-rest.ensures.answer (and_failed _ c.in_err-rest-2.ensures.answer))) }

pub returns-in_err-rest-3 : goal.returns-in_err-rest-3
returns-in_err-rest-3 c =
    let p = err_from_is_err_and c.from_residual-in_err-rest-3.result c.from_residual-in_err-rest-3.ensures.1 in record { answer = rw (p.1, p.2) (class_rest_answer _ c.in_default.ensures.none (and_ok c.in_ok-rest.ensures.answer (and_ok c.in_ok-rest-2.ensures.answer (and_failed _ c.in_err-rest-3.ensures.answer)))) }

pub returns-in_err-members : goal.returns-in_err-members
returns-in_err-members c =
    let p = err_from_is_err_and c.from_residual-in_err-members.result c.from_residual-in_err-members.ensures.1 in record { answer = rw (p.1, p.2) (class_rest_answer _ c.in_default.ensures.none (and_ok c.in_ok-rest.ensures.answer (and_ok c.in_ok-rest-2.ensures.answer (and_ok c.in_ok-rest-3.ensures.answer (and_failed _ c.in_err-members.ensures.answer))))) }

pub returns-in_err-rest-4 : goal.returns-in_err-rest-4
returns-in_err-rest-4 c =
    let p = err_from_is_err_and c.from_residual-in_err-rest-4.result c.from_residual-in_err-rest-4.ensures.1 in record { answer = rw (p.1, p.2) (class_rest_answer _ c.in_default.ensures.none (and_ok c.in_ok-rest.ensures.answer (and_ok c.in_ok-rest-2.ensures.answer (and_ok c.in_ok-rest-3.ensures.answer (and_ok c.in_ok-members.ensures.answer (and_failed _ c.in_err-rest-4.ensures.answer)))))) }

pub returns : goal.returns
returns c = record { answer = class_rest_answer _ c.in_default.ensures.none (and_ok c.in_ok-rest.ensures.answer (and_ok c.in_ok-rest-2.ensures.answer (and_ok c.in_ok-rest-3.ensures.answer (and_ok c.in_ok-members.ensures.answer (and_ok c.in_ok-rest-4.ensures.answer and_done))))) }
