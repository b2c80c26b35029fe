use Rattle.std.proofs.Common.{◌≡◌, ◌∷◌, [], sym, ◌∙◌, ap, map, rules}
use Rattle.std.proofs.lemmas.Result.{err_from_is_err_and}
use Rattle.std.proofs.lemmas.List.{map-append}
use Rattle.ca_descent.proofs.Exact.{no_memory, no_longer, shrinks}
use Rattle.ca_expressions.proofs.Fronts.{some_of, none_of}
use Rattle.ca_parse.proofs.ChainStatements.{no_item}
use Rattle.ca_parse.proofs.TextRules.{main_start, main_more, main_loop_failed, main_unclosed, main_end, kept_view}
use Rattle.ca_tree.specs.View.{statement_view}
use Rattle.ca_parse.proofs.whole.parse_main.Goals as goal

pub items-init : goal.items-init
items-init c =
    let n : c.new-out.result.items ≡ [] = search rules in rw n (main_start _)

pub returns-in_err-item : goal.returns-in_err-item
returns-in_err-item c =
    let p = err_from_is_err_and c.from_residual.result c.from_residual.ensures.1 in record { answer = rw (p.1, p.2) (main_loop_failed _ c.items.invariant (none_of _ (sym c.is_sign.ensures ∙ c.items-test.true)) c.in_err-item.ensures.answer) }

pub returns-in_err-add : goal.returns-in_err-add
returns-in_err-add c =
    let p = err_from_is_err_and c.from_residual-in_err-add.result c.from_residual-in_err-add.ensures.1 in record { answer = rw (p.1, p.2) (no_memory) }

pub is_return_zero-ends-requires : goal.is_return_zero-ends-requires
is_return_zero-ends-requires c =
    no_longer c.in_ok-item.ensures.answer

pub items-preserved : goal.items-preserved
items-preserved c =
    let e = ap (map statement_view) c.in_ok-add.ensures ∙ map-append statement_view c.items.out.items (c.in_ok-item.item.value ∷ []) in rw (e, c.is_return_zero-ends.ensures) (main_more c.items.invariant (none_of _ (sym c.is_sign.ensures ∙ c.items-test.true)) c.in_ok-item.ensures.answer)

pub items-smaller : goal.items-smaller
items-smaller c =
    shrinks (λ free r x d. no_item _ _ _ _ d) c.in_ok-item.ensures.answer

pub returns-in_err-rest : goal.returns-in_err-rest
returns-in_err-rest c =
    let p = err_from_is_err_and c.from_residual-in_err-rest.result c.from_residual-in_err-rest.ensures.1 in record { answer = rw (p.1, p.2) (main_unclosed _ c.items.invariant (some_of _ (sym c.is_sign.ensures ∙ c.items-test.false)).1 c.in_err-rest.ensures.answer) }

pub returns : goal.returns
returns c = record { answer = rw (kept_view c.kept.result.items c.items.out.items c.items.ends c.kept.ensures) (main_end c.items.invariant (some_of _ (sym c.is_sign.ensures ∙ c.items-test.false)).1 c.in_ok-rest.ensures.answer) }
