use Rattle.std.proofs.lemmas.Result.{err_from_is_err_and}
use Rattle.ca_descent.proofs.Exact.{sees_got, sees_head}
use Rattle.ca_descent.proofs.Parts.{and_ok, and_failed, and_done}
use Rattle.ca_expressions.specs.Terminals.{key, sign}
use Rattle.ca_parse.proofs.AssignRules.{expression_answer, creation_answer, created_answer, created_call_answer}
use Rattle.ca_tree.specs.declared.token.Keyword.TheVariants.{New as K_New}
use Rattle.ca_tree.specs.declared.token.Sign.TheVariants.{OpenParenthesis as S_OpenParenthesis}
use Rattle.ca_parse.proofs.assigns.parse_right.Goals as goal

pub returns-in_err-value : goal.returns-in_err-value
returns-in_err-value c =
    let p = err_from_is_err_and c.from_residual.result c.from_residual.ensures.1 in record { answer = rw (p.1, p.2) (expression_answer c.in_default.ensures.none (and_failed _ c.in_err-value.ensures.answer)) }

pub returns-in_default : goal.returns-in_default
returns-in_default c = record { answer = rw c.into_inner.ensures (expression_answer c.in_default.ensures.none (and_ok c.in_ok-value.ensures.answer and_done)) }

pub returns-in_err-class : goal.returns-in_err-class
returns-in_err-class c =
    let p = err_from_is_err_and c.from_residual-in_err-class.result c.from_residual-in_err-class.ensures.1 in record { answer = rw (p.1, p.2) (creation_answer (sees_head (key K_New) c.in-Some.ensures.some) (and_ok (sees_got c.in-Some.ensures.some) (and_failed _ c.in_err-class.ensures.answer))) }

pub returns-in_default-sign_at : goal.returns-in_default-sign_at
returns-in_default-sign_at c = record { answer = creation_answer (sees_head (key K_New) c.in-Some.ensures.some) (and_ok (sees_got c.in-Some.ensures.some) (and_ok c.in_ok-class.ensures.answer (created_answer _ c.in_default-sign_at.ensures.none and_done))) }

pub returns-in_err-rest : goal.returns-in_err-rest
returns-in_err-rest c =
    let p = err_from_is_err_and c.from_residual-in_err-rest.result c.from_residual-in_err-rest.ensures.1 in record { answer = rw (p.1, p.2) (creation_answer (sees_head (key K_New) c.in-Some.ensures.some) (and_ok (sees_got c.in-Some.ensures.some) (and_ok c.in_ok-class.ensures.answer (created_call_answer _ (sees_head (sign S_OpenParenthesis) c.in-Some-sign_at.ensures.some) (and_ok (sees_got c.in-Some-sign_at.ensures.some) (and_failed _ c.in_err-rest.ensures.answer)))))) }

pub returns : goal.returns
returns c = record { answer = creation_answer (sees_head (key K_New) c.in-Some.ensures.some) (and_ok (sees_got c.in-Some.ensures.some) (and_ok c.in_ok-class.ensures.answer (created_call_answer _ (sees_head (sign S_OpenParenthesis) c.in-Some-sign_at.ensures.some) (and_ok (sees_got c.in-Some-sign_at.ensures.some) (and_ok c.in_ok-rest.ensures.answer and_done))))) }
