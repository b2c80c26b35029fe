use Rattle.std.proofs.Common.{sym, ◌∙◌}
use Rattle.std.proofs.lemmas.Result.{err_from_is_err_and}
use Rattle.ca_descent.proofs.Exact.{sees_got, sees_head}
use Rattle.ca_descent.proofs.Parts.{and_ok, and_failed}
use Rattle.ca_expressions.specs.Terminals.{key}
use Rattle.ca_expressions.proofs.Fronts.{some_of, none_of}
use Rattle.ca_parse.proofs.MemberRules.{method_rest_answer, operation_answer, typed_answer}
use Rattle.ca_tree.specs.declared.token.Keyword.TheVariants.{Void as K_Void}
use Rattle.ca_parse.proofs.members.parse_member.Goals as goal

pub returns-in_err-name : goal.returns-in_err-name
returns-in_err-name c =
    let p = err_from_is_err_and c.from_residual.result c.from_residual.ensures.1 in record { answer = rw (p.1, p.2) (operation_answer (sees_head (key K_Void) c.in-Some.ensures.some) (and_ok (sees_got c.in-Some.ensures.some) (and_failed _ c.in_err-name.ensures.answer))) }

pub returns-in-Some : goal.returns-in-Some
returns-in-Some c = record { answer = operation_answer (sees_head (key K_Void) c.in-Some.ensures.some) (and_ok (sees_got c.in-Some.ensures.some) (and_ok c.in_ok-name.ensures.answer c.parse_method.ensures.answer)) }

pub returns-in_err-ty : goal.returns-in_err-ty
returns-in_err-ty c =
    let p = err_from_is_err_and c.from_residual-in_err-ty.result c.from_residual-in_err-ty.ensures.1 in record { answer = rw (p.1, p.2) (typed_answer c.in_default.ensures.none (and_failed _ c.in_err-ty.ensures.answer)) }

pub returns-in_err-name-2 : goal.returns-in_err-name-2
returns-in_err-name-2 c =
    let p = err_from_is_err_and c.from_residual-in_err-name-2.result c.from_residual-in_err-name-2.ensures.1 in record { answer = rw (p.1, p.2) (typed_answer c.in_default.ensures.none (and_ok c.in_ok-ty.ensures.answer (and_failed _ c.in_err-name-2.ensures.answer))) }

pub returns-then-is_sign : goal.returns-then-is_sign
returns-then-is_sign c = record { answer = typed_answer c.in_default.ensures.none (and_ok c.in_ok-ty.ensures.answer (and_ok c.in_ok-name-2.ensures.answer (method_rest_answer _ _ (some_of _ (sym c.is_sign.ensures ∙ c.if-is_sign.true)).1 c.parse_method-then-is_sign.ensures.answer))) }

pub returns : goal.returns
returns c = record { answer = typed_answer c.in_default.ensures.none (and_ok c.in_ok-ty.ensures.answer (and_ok c.in_ok-name-2.ensures.answer c.parse_fields.ensures.answer)) }

pub parse_fields-requires : goal.parse_fields-requires
parse_fields-requires c =
    none_of _ (sym c.is_sign.ensures ∙ c.if-is_sign.false)
