use Rattle.std.proofs.Common.{sym, ◌∙◌, ap, map}
use Rattle.std.proofs.lemmas.Result.{err_from_is_err_and}
use Rattle.std.proofs.lemmas.List.{map-append}
use Rattle.ca_descent.proofs.Exact.{no_memory, shrinks}
use Rattle.ca_parse.proofs.Lines.{loop_more, loop_failed, loop_end, loop_unclosed}
use Rattle.ca_expressions.proofs.Fronts.{some_of, none_of}
use Rattle.ca_parse.proofs.MemberRules.{declaration_lines, no_declaration}
use Rattle.ca_tree.specs.View.{class_view}
use Rattle.ca_parse.proofs.whole.parse_classes.Goals as goal

pub returns-in_err-class : goal.returns-in_err-class
returns-in_err-class c =
    let p = err_from_is_err_and c.from_residual.result c.from_residual.ensures.1 in record { answer = rw (p.1, p.2) (loop_failed declaration_lines _ c.classes.invariant (none_of _ (sym c.is_key.ensures ∙ c.classes-test.true)) c.in_err-class.ensures.answer) }

pub returns-in_err-out : goal.returns-in_err-out
returns-in_err-out c =
    let p = err_from_is_err_and c.from_residual-in_err-out.result c.from_residual-in_err-out.ensures.1 in record { answer = rw (p.1, p.2) (no_memory) }

pub classes-preserved : goal.classes-preserved
classes-preserved c =
    let e = ap (map class_view) c.in_ok-out.ensures ∙ map-append class_view c.classes.out.items _ in rw e (loop_more declaration_lines c.classes.invariant (none_of _ (sym c.is_key.ensures ∙ c.classes-test.true)) c.in_ok-class.ensures.answer)

pub classes-smaller : goal.classes-smaller
classes-smaller c =
    shrinks (λ free r x d. no_declaration _ _ _ d) c.in_ok-class.ensures.answer

pub returns-in_err-rest : goal.returns-in_err-rest
returns-in_err-rest c =
    let p = err_from_is_err_and c.from_residual-in_err-rest.result c.from_residual-in_err-rest.ensures.1 in record { answer = rw (p.1, p.2) (loop_unclosed declaration_lines _ c.classes.invariant (some_of _ (sym c.is_key.ensures ∙ c.classes-test.false)).1 c.in_err-rest.ensures.answer) }

pub returns : goal.returns
returns c = record { answer = loop_end declaration_lines c.classes.invariant (some_of _ (sym c.is_key.ensures ∙ c.classes-test.false)).1 c.in_ok-rest.ensures.answer }
