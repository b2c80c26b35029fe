use Rattle.std.proofs.Common.{◌≡◌, [], arith, rules}
use Rattle.std.proofs.lemmas.Result.{err_from_is_err_and}
use Rattle.ca_descent.proofs.Exact.{no_memory, sees_shorter, no_longer}
use Rattle.ca_expressions.proofs.Lists.{listed_none, listed_failed, listed_first, commas_more, commas_failed, commas_end, commas_wrong}
use Rattle.ca_parse.proofs.MemberRules.{param_rule}
use Rattle.ca_parse.proofs.members.parse_params.Goals as goal

pub returns-in-Some : goal.returns-in-Some
returns-in-Some c =
    let n : c.new-out.result.items ≡ [] = search rules in record { answer = rw n (listed_none param_rule c.in-Some.ensures.some) }

pub returns-in_err-first : goal.returns-in_err-first
returns-in_err-first c =
    let p = err_from_is_err_and c.from_residual.result c.from_residual.ensures.1 in record { answer = rw (p.1, p.2) (listed_failed param_rule _ c.in_default.ensures.none c.in_err-first.ensures.answer) }

pub returns-in_err-push : goal.returns-in_err-push
returns-in_err-push c =
    let p = err_from_is_err_and c.from_residual-in_err-push.result c.from_residual-in_err-push.ensures.1 in record { answer = rw (p.1, p.2) (no_memory) }

pub more-init : goal.more-init
more-init c =
    let n : c.new-out.result.items ≡ [] = search rules in let e = c.in_ok-push.ensures.items in rw (e, n) (listed_first param_rule c.in_default.ensures.none c.in_ok-first.ensures.answer)

pub returns-in_default-sign_at-2 : goal.returns-in_default-sign_at-2
returns-in_default-sign_at-2 c = record { answer = commas_wrong param_rule c.more.invariant c.in_default-sign_at.ensures.none c.in_default-sign_at-2.ensures.none }

pub more-smaller : goal.more-smaller
more-smaller c =
    omega (arith, no_longer c.in_ok-param.ensures.answer, sees_shorter c.in-Some-sign_at.ensures.some)

pub returns-in_err-param : goal.returns-in_err-param
returns-in_err-param c =
    let p = err_from_is_err_and c.from_residual-in_err-param.result c.from_residual-in_err-param.ensures.1 in record { answer = rw (p.1, p.2) (commas_failed param_rule c.more.invariant _ c.in-Some-sign_at.ensures.some c.in_err-param.ensures.answer) }

pub returns-in_err-push-2 : goal.returns-in_err-push-2
returns-in_err-push-2 c =
    let p = err_from_is_err_and c.from_residual-in_err-push-2.result c.from_residual-in_err-push-2.ensures.1 in record { answer = rw (p.1, p.2) (no_memory) }

pub more-preserved : goal.more-preserved
more-preserved c =
    let e = c.in_ok-push-2.ensures.items in rw e (commas_more param_rule c.more.invariant c.in-Some-sign_at.ensures.some c.in_ok-param.ensures.answer)

pub returns : goal.returns
returns c = record { answer = commas_end param_rule c.more.invariant c.in-Some-sign_at-2.ensures.some }
