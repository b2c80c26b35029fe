use Rattle.std.proofs.Common.{◌∷◌, [], ◌∙◌, ap, map, arith, refl}
use Rattle.std.proofs.lemmas.Result.{err_from_is_err_and}
use Rattle.std.proofs.lemmas.List.{map-append}
use Rattle.ca_descent.proofs.Exact.{no_memory, sees_shorter, no_longer}
use Rattle.ca_descent.proofs.Parts.{and_failed}
use Rattle.ca_expressions.proofs.Lists.{commas_more, commas_failed, commas_end, commas_wrong}
use Rattle.ca_parse.proofs.MemberRules.{further_rule, field_rest_answer, fields_start}
use Rattle.ca_tree.specs.View.{member_view}
use Rattle.ca_parse.proofs.members.parse_fields.Goals as goal

pub returns-in_err-length : goal.returns-in_err-length
returns-in_err-length c =
    let p = err_from_is_err_and c.from_residual.result c.from_residual.ensures.1 in record { answer = rw (p.1, p.2) (field_rest_answer _ _ c.requires (and_failed _ c.in_err-length.ensures.answer)) }

pub returns-in_err-copy_type : goal.returns-in_err-copy_type
returns-in_err-copy_type c =
    let p = err_from_is_err_and c.from_residual-in_err-copy_type.result c.from_residual-in_err-copy_type.ensures.1 in record { answer = rw (p.1, p.2) (no_memory) }

pub returns-in_err-out : goal.returns-in_err-out
returns-in_err-out c =
    let p = err_from_is_err_and c.from_residual-in_err-out.result c.from_residual-in_err-out.ensures.1 in record { answer = rw (p.1, p.2) (no_memory) }

pub more-init : goal.more-init
more-init c =
    (refl, rw (c.in_ok-out.ensures, c.in_ok-copy_type.ensures) (fields_start c.args.ty (c.args.name, c.args.at) _ _ _ c.requires c.in_ok-length.ensures.answer))

pub returns-in_default-sign_at : goal.returns-in_default-sign_at
returns-in_default-sign_at c = record { answer = commas_wrong (further_rule _) c.more.invariant.1 c.in_default.ensures.none c.in_default-sign_at.ensures.none }

pub more-smaller : goal.more-smaller
more-smaller c =
    omega (arith, no_longer c.in_ok-field.ensures.answer, sees_shorter c.in-Some.ensures.some)

pub returns-in_err-field : goal.returns-in_err-field
returns-in_err-field c =
    let p = err_from_is_err_and c.from_residual-in_err-field.result c.from_residual-in_err-field.ensures.1 in record { answer = rw (p.1, p.2) (commas_failed (further_rule _) c.more.invariant.1 _ c.in-Some.ensures.some (rw c.more.invariant.0 at c.in_err-field.ensures.answer)) }

pub returns-in_err-push : goal.returns-in_err-push
returns-in_err-push c =
    let p = err_from_is_err_and c.from_residual-in_err-push.result c.from_residual-in_err-push.ensures.1 in record { answer = rw (p.1, p.2) (no_memory) }

pub more-preserved : goal.more-preserved
more-preserved c =
    let e = ap (map member_view) c.in_ok-push.ensures.items ∙ map-append member_view c.more.out.items ((c.in_ok-field.field) ∷ []) in (c.more.invariant.0, rw e (commas_more (further_rule _) c.more.invariant.1 c.in-Some.ensures.some (rw c.more.invariant.0 at c.in_ok-field.ensures.answer)))

pub returns : goal.returns
returns c = record { answer = commas_end (further_rule _) c.more.invariant.1 c.in-Some-sign_at.ensures.some }
