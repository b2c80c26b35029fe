use Rattle.std.proofs.lemmas.Result.{err_from_is_err_and}
use Rattle.ca_descent.proofs.Exact.{sees_got, sees_head}
use Rattle.ca_descent.proofs.Parts.{and_ok, and_failed, and_done}
use Rattle.ca_expressions.specs.Terminals.{key}
use Rattle.ca_parse.proofs.AssignRules.{long_answer, bool_answer, pointer_answer}
use Rattle.ca_tree.specs.declared.token.Keyword.TheVariants.{Bool as K_Bool, Long as K_Long}
use Rattle.ca_parse.proofs.types.parse_type.Goals as goal

pub returns-in-Some : goal.returns-in-Some
returns-in-Some c = record { answer = long_answer (sees_head (key K_Long) c.in-Some.ensures.some) (and_ok (sees_got c.in-Some.ensures.some) and_done) }

pub returns-in-Some-key_at : goal.returns-in-Some-key_at
returns-in-Some-key_at c = record { answer = bool_answer (sees_head (key K_Bool) c.in-Some-key_at.ensures.some) (and_ok (sees_got c.in-Some-key_at.ensures.some) and_done) }

pub returns-in_err-name : goal.returns-in_err-name
returns-in_err-name c =
    let p = err_from_is_err_and c.from_residual.result c.from_residual.ensures.1 in record { answer = rw (p.1, p.2) (pointer_answer c.in_default.ensures.none c.in_default-key_at.ensures.none (and_failed _ c.in_err-name.ensures.answer)) }

pub returns-in_err-rest : goal.returns-in_err-rest
returns-in_err-rest c =
    let p = err_from_is_err_and c.from_residual-in_err-rest.result c.from_residual-in_err-rest.ensures.1 in record { answer = rw (p.1, p.2) (pointer_answer c.in_default.ensures.none c.in_default-key_at.ensures.none (and_ok c.in_ok-name.ensures.answer (and_failed _ c.in_err-rest.ensures.answer))) }

pub returns : goal.returns
returns c = record { answer = pointer_answer c.in_default.ensures.none c.in_default-key_at.ensures.none (and_ok c.in_ok-name.ensures.answer (and_ok c.in_ok-rest.ensures.answer and_done)) }
