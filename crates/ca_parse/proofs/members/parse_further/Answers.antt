use Rattle.std.proofs.Common.{sym, ◌∙◌}
use Rattle.std.proofs.lemmas.Result.{err_from_is_err_and}
use Rattle.ca_descent.proofs.Exact.{no_memory}
use Rattle.ca_descent.proofs.Parts.{and_ok, and_failed}
use Rattle.ca_parse.proofs.MemberRules.{plain_answer, starred_answer}
use Rattle.ca_parse.proofs.members.parse_further.Goals as goal

pub returns-in_err-copy : goal.returns-in_err-copy
returns-in_err-copy c =
    let p = err_from_is_err_and c.from_residual.result c.from_residual.ensures.1 in record { answer = rw (p.1, p.2) (no_memory) }

pub returns-then-not-is_pointer : goal.returns-then-not-is_pointer
returns-then-not-is_pointer c =
    let e = c.in_ok-copy.ensures in record { answer = plain_answer _ (sym c.is_pointer.ensures ∙ c.if-not-is_pointer.true) (rw e at c.parse_named.ensures.answer) }

pub returns-in_err-rest : goal.returns-in_err-rest
returns-in_err-rest c =
    let p = err_from_is_err_and c.from_residual-in_err-rest.result c.from_residual-in_err-rest.ensures.1 in record { answer = rw (p.1, p.2) (starred_answer _ (sym c.is_pointer.ensures ∙ c.if-not-is_pointer.false) (and_failed _ c.in_err-rest.ensures.answer)) }

pub returns : goal.returns
returns c =
    let e = c.in_ok-copy.ensures in record { answer = starred_answer _ (sym c.is_pointer.ensures ∙ c.if-not-is_pointer.false) (and_ok c.in_ok-rest.ensures.answer (rw e at c.parse_named-2.ensures.answer)) }
