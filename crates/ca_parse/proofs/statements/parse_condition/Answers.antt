use Rattle.std.proofs.Common.{arith}
use Rattle.std.proofs.lemmas.Result.{err_from_is_err_and}
use Rattle.ca_descent.proofs.Exact.{no_longer}
use Rattle.ca_descent.proofs.Parts.{and_ok, and_failed, and_done}
use Rattle.ca_parse.proofs.StatementRules.{condition_answer}
use Rattle.ca_parse.proofs.ChainStatements.{shrinks_first}
use Rattle.ca_tree.specs.declared.token.Sign.TheVariants.{OpenParenthesis as S_OpenParenthesis}
use Rattle.ca_parse.proofs.statements.parse_condition.Goals as goal

pub returns-in_err-rest-clause-answer : goal.returns-in_err-rest-clause-answer
returns-in_err-rest-clause-answer c =
    let p = err_from_is_err_and c.from_residual.result c.from_residual.ensures.1 in rw (p.1, p.2) (condition_answer (and_failed _ c.in_err-rest.ensures.answer))

pub returns-in_err-value-clause-answer : goal.returns-in_err-value-clause-answer
returns-in_err-value-clause-answer c =
    let p = err_from_is_err_and c.from_residual-in_err-value.result c.from_residual-in_err-value.ensures.1 in rw (p.1, p.2) (condition_answer (and_ok c.in_ok-rest.ensures.answer (and_failed _ c.in_err-value.ensures.answer)))

pub returns-in_err-rest-2-clause-answer : goal.returns-in_err-rest-2-clause-answer
returns-in_err-rest-2-clause-answer c =
    let p = err_from_is_err_and c.from_residual-in_err-rest-2.result c.from_residual-in_err-rest-2.ensures.1 in rw (p.1, p.2) (condition_answer (and_ok c.in_ok-rest.ensures.answer (and_ok c.in_ok-value.ensures.answer (and_failed _ c.in_err-rest-2.ensures.answer))))

pub returns-clause-answer : goal.returns-clause-answer
returns-clause-answer c = condition_answer (and_ok c.in_ok-rest.ensures.answer (and_ok c.in_ok-value.ensures.answer (and_ok c.in_ok-rest-2.ensures.answer and_done)))

pub returns-clause-shorter : goal.returns-clause-shorter
returns-clause-shorter c = omega (arith, shrinks_first S_OpenParenthesis c.in_ok-rest.ensures.answer, no_longer c.in_ok-value.ensures.answer, no_longer c.in_ok-rest-2.ensures.answer)
