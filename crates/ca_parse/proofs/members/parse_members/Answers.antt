use Rattle.std.proofs.Common.{sym, ◌∙◌, ap, map}
use Rattle.std.proofs.lemmas.Result.{err_from_is_err_and}
use Rattle.std.proofs.lemmas.List.{map-append}
use Rattle.ca_descent.proofs.Exact.{no_memory, shrinks}
use Rattle.ca_parse.proofs.Lines.{loop_more, loop_failed, loop_end, loop_unclosed}
use Rattle.ca_expressions.proofs.Fronts.{some_of, none_of}
use Rattle.ca_parse.proofs.MemberRules.{member_lines, no_member}
use Rattle.ca_tree.specs.View.{member_view}
use Rattle.ca_parse.proofs.members.parse_members.Goals as goal

pub returns-in_err-line : goal.returns-in_err-line
returns-in_err-line c =
    let p = err_from_is_err_and c.from_residual.result c.from_residual.ensures.1 in record { answer = rw (p.1, p.2) (loop_failed member_lines _ c.members.invariant (none_of _ (sym c.is_sign.ensures ∙ c.members-test.true)) c.in_err-line.ensures.answer) }

pub returns-in_err-out : goal.returns-in_err-out
returns-in_err-out c =
    let p = err_from_is_err_and c.from_residual-in_err-out.result c.from_residual-in_err-out.ensures.1 in record { answer = rw (p.1, p.2) (no_memory) }

pub members-preserved : goal.members-preserved
members-preserved c =
    let e = ap (map member_view) c.in_ok-out.ensures ∙ map-append member_view c.members.out.items _ in rw e (loop_more member_lines c.members.invariant (none_of _ (sym c.is_sign.ensures ∙ c.members-test.true)) c.in_ok-line.ensures.answer)

pub members-smaller : goal.members-smaller
members-smaller c =
    shrinks (λ free r x d. no_member _ _ _ d) c.in_ok-line.ensures.answer

pub returns-in_err-rest : goal.returns-in_err-rest
returns-in_err-rest c =
    let p = err_from_is_err_and c.from_residual-in_err-rest.result c.from_residual-in_err-rest.ensures.1 in record { answer = rw (p.1, p.2) (loop_unclosed member_lines _ c.members.invariant (some_of _ (sym c.is_sign.ensures ∙ c.members-test.false)).1 c.in_err-rest.ensures.answer) }

pub returns : goal.returns
returns c = record { answer = loop_end member_lines c.members.invariant (some_of _ (sym c.is_sign.ensures ∙ c.members-test.false)).1 c.in_ok-rest.ensures.answer }
