use Rattle.std.proofs.lemmas.Result.{err_from_is_err_and}
use Rattle.ca_descent.proofs.Exact.{sees_got, sees_head}
use Rattle.ca_descent.proofs.Parts.{and_ok, and_failed}
use Rattle.ca_expressions.specs.Terminals.{sign}
use Rattle.ca_parse.proofs.AssignRules.{bare_answer, valued_answer, local_answer}
use Rattle.ca_tree.specs.declared.token.Sign.TheVariants.{Assign as S_Assign}
use Rattle.ca_parse.proofs.Semicolons.{ended_exact}
use Rattle.ca_parse.proofs.assigns.parse_local.Goals as goal

pub returns-in_err-ty : goal.returns-in_err-ty
returns-in_err-ty c =
    let p = err_from_is_err_and c.from_residual.result c.from_residual.ensures.1 in record { answer = rw (p.1, p.2) (local_answer (and_failed _ c.in_err-ty.ensures.answer)) }

pub returns-in_err-name : goal.returns-in_err-name
returns-in_err-name c =
    let p = err_from_is_err_and c.from_residual-in_err-name.result c.from_residual-in_err-name.ensures.1 in record { answer = rw (p.1, p.2) (local_answer (and_ok c.in_ok-ty.ensures.answer (and_failed _ c.in_err-name.ensures.answer))) }

pub returns-in_default : goal.returns-in_default
returns-in_default c = record { answer = local_answer (and_ok c.in_ok-ty.ensures.answer (and_ok c.in_ok-name.ensures.answer (bare_answer _ _ c.in_default.ensures.none (ended_exact c.line.ensures.answer)))) }

pub returns-in_err-value : goal.returns-in_err-value
returns-in_err-value c =
    let p = err_from_is_err_and c.from_residual-in_err-value.result c.from_residual-in_err-value.ensures.1 in record { answer = rw (p.1, p.2) (local_answer (and_ok c.in_ok-ty.ensures.answer (and_ok c.in_ok-name.ensures.answer (valued_answer _ _ (sees_head (sign S_Assign) c.in-Some.ensures.some) (and_ok (sees_got c.in-Some.ensures.some) (and_failed _ c.in_err-value.ensures.answer)))))) }

pub returns : goal.returns
returns c = record { answer = local_answer (and_ok c.in_ok-ty.ensures.answer (and_ok c.in_ok-name.ensures.answer (valued_answer _ _ (sees_head (sign S_Assign) c.in-Some.ensures.some) (and_ok (sees_got c.in-Some.ensures.some) (and_ok c.in_ok-value.ensures.answer (ended_exact c.line-2.ensures.answer)))))) }
