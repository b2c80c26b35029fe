use Rattle.std.proofs.Common.{rules}
use Rattle.std.proofs.lemmas.Result.{err_from_is_err_and}
use Rattle.ca_descent.proofs.Exact.{sees_got, sees_head}
use Rattle.ca_descent.proofs.Parts.{and_ok, and_failed, and_done}
use Rattle.ca_expressions.specs.Terminals.{sign}
use Rattle.ca_parse.proofs.MemberRules.{array_answer, scalar_answer}
use Rattle.ca_tree.specs.declared.token.Sign.TheVariants.{OpenBracket as S_OpenBracket}
use Rattle.std.proofs.Common.{w64}
use Rattle.std.proofs.lemmas.Int.{to_z-of_z}
use mir.Val.{SFits}
use Rattle.ca_parse.proofs.members.parse_length.Goals as goal

pub returns-in_default : goal.returns-in_default
returns-in_default c = record { answer = scalar_answer c.in_default.ensures.none }

pub returns-in_err-length : goal.returns-in_err-length
returns-in_err-length c =
    let p = err_from_is_err_and c.from_residual.result c.from_residual.ensures.1 in record { answer = rw (p.1, p.2) (array_answer (sees_head (sign S_OpenBracket) c.in-Some.ensures.some) (and_ok (sees_got c.in-Some.ensures.some) (and_failed _ c.in_err-length.ensures.answer))) }

pub returns-in_err-rest : goal.returns-in_err-rest
returns-in_err-rest c =
    let p = err_from_is_err_and c.from_residual-in_err-rest.result c.from_residual-in_err-rest.ensures.1 in record { answer = rw (p.1, p.2) (array_answer (sees_head (sign S_OpenBracket) c.in-Some.ensures.some) (and_ok (sees_got c.in-Some.ensures.some) (and_ok c.in_ok-length.ensures.answer (and_failed _ c.in_err-rest.ensures.answer)))) }

pub returns : goal.returns
returns c =
    let f : SFits w64 c.in_ok-length.length = search rules in record { answer = rw (to_z-of_z w64 c.in_ok-length.length f) (array_answer (sees_head (sign S_OpenBracket) c.in-Some.ensures.some) (and_ok (sees_got c.in-Some.ensures.some) (and_ok c.in_ok-length.ensures.answer (and_ok c.in_ok-rest.ensures.answer and_done)))) }
