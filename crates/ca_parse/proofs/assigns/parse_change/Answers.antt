use Rattle.std.proofs.lemmas.Result.{err_from_is_err_and}
use Rattle.ca_descent.proofs.Exact.{sees_got, sees_head}
use Rattle.ca_descent.proofs.Parts.{and_ok, and_failed, and_done}
use Rattle.ca_expressions.specs.Terminals.{sign}
use Rattle.ca_parse.proofs.AssignRules.{puts_answer, increments_answer, decrements_answer, changes_answer}
use Rattle.ca_tree.specs.declared.token.Sign.TheVariants.{Assign as S_Assign, Decrement as S_Decrement, Increment as S_Increment}
use Rattle.ca_parse.proofs.assigns.parse_change.Goals as goal

pub returns-in_err-right : goal.returns-in_err-right
returns-in_err-right c =
    let p = err_from_is_err_and c.from_residual.result c.from_residual.ensures.1 in record { answer = rw (p.1, p.2) (puts_answer (sees_head (sign S_Assign) c.in-Some.ensures.some) (and_ok (sees_got c.in-Some.ensures.some) (and_failed _ c.in_err-right.ensures.answer))) }

pub returns-in-Some : goal.returns-in-Some
returns-in-Some c = record { answer = puts_answer (sees_head (sign S_Assign) c.in-Some.ensures.some) (and_ok (sees_got c.in-Some.ensures.some) (and_ok c.in_ok-right.ensures.answer and_done)) }

pub returns-in-Some-sign_at : goal.returns-in-Some-sign_at
returns-in-Some-sign_at c = record { answer = rw c.one.ensures (increments_answer (sees_head (sign S_Increment) c.in-Some-sign_at.ensures.some) (and_ok (sees_got c.in-Some-sign_at.ensures.some) and_done)) }

pub returns-in-Some-sign_at-2 : goal.returns-in-Some-sign_at-2
returns-in-Some-sign_at-2 c = record { answer = rw c.one-in-Some-sign_at-2.ensures (decrements_answer (sees_head (sign S_Decrement) c.in-Some-sign_at-2.ensures.some) (and_ok (sees_got c.in-Some-sign_at-2.ensures.some) and_done)) }

pub returns-in_err-op : goal.returns-in_err-op
returns-in_err-op c =
    let p = err_from_is_err_and c.from_residual-in_err-op.result c.from_residual-in_err-op.ensures.1 in record { answer = rw (p.1, p.2) (changes_answer c.in_default.ensures.none c.in_default-sign_at.ensures.none c.in_default-sign_at-2.ensures.none (and_failed _ c.in_err-op.ensures.answer)) }

pub returns-in_err-value : goal.returns-in_err-value
returns-in_err-value c =
    let p = err_from_is_err_and c.from_residual-in_err-value.result c.from_residual-in_err-value.ensures.1 in record { answer = rw (p.1, p.2) (changes_answer c.in_default.ensures.none c.in_default-sign_at.ensures.none c.in_default-sign_at-2.ensures.none (and_ok c.in_ok-op.ensures.answer (and_failed _ c.in_err-value.ensures.answer))) }

pub returns : goal.returns
returns c = record { answer = rw c.into_inner.ensures (changes_answer c.in_default.ensures.none c.in_default-sign_at.ensures.none c.in_default-sign_at-2.ensures.none (and_ok c.in_ok-op.ensures.answer (and_ok c.in_ok-value.ensures.answer and_done))) }
