use Rattle.std.proofs.Common.{◌∷◌, [], sym, ◌∙◌, refl, ap, subst, map, arith, is_some}
use Rattle.std.proofs.lemmas.Result.{err_from_is_err_and}
use Rattle.std.proofs.lemmas.List.{map-append}
use Rattle.ca_descent.specs.Exact.{Exact}
use Rattle.ca_descent.proofs.Exact.{sees_got, sees_head, no_memory, sees_shorter, no_longer}
use Rattle.ca_descent.proofs.Parts.{and_ok, and_failed, and_done}
use Rattle.ca_expressions.specs.Terminals.{key, sign}
use Rattle.ca_parse.proofs.Lines.{one_answer, loop_more, loop_failed, loop_end, loop_unclosed}
use Rattle.ca_parse.proofs.Locals.{other_answer, local_answer}
use Rattle.ca_parse.proofs.StatementFronts.{items_answer, item_lines}
use Rattle.ca_parse.proofs.StatementRules.{nothing_answer, if_rest_answer, else_answer, without_answer, while_rest_answer, for_rest_answer, block_answer, if_answer, while_answer, for_answer, nested_deep, not_nested, none_nested, return_answer, print_answer}
use Rattle.ca_expressions.proofs.Fronts.{some_of, none_of}
use Rattle.ca_parse.proofs.ChainStatements.{chain_answer, statements_are, tail_shut, simple_shut, return_shut, print_shut, no_item, other_statement, item_answer}
use Rattle.ca_tree.specs.View.{statement_view}
use Rattle.ca_tree.specs.declared.token.Keyword.TheVariants.{Else as K_Else, For as K_For, If as K_If, Print as K_Print, Return as K_Return, While as K_While}
use Rattle.ca_tree.specs.declared.token.Sign.TheVariants.{OpenBrace as S_OpenBrace, Semicolon as S_Semicolon}
use Rattle.ca_descent.specs.Exact.{Got}
use Rattle.ca_descent.proofs.Exact.{shrinks}
use Rattle.ca_tree.specs.Plain.{block}
use Rattle.ca_tree.proofs.Rows.{statements_are_list}
use Rattle.ca_parse.specs.Grammar.{Stmt}
use Rattle.ca_parse.specs.clauses.Closed.{StmtClosed}
use Rattle.ca_parse.proofs.statements.+statement.Goals as goal

pub parse_nested-returns-in_err-items-clause-answer : goal.parse_nested-returns-in_err-items-clause-answer
parse_nested-returns-in_err-items-clause-answer t c =
    let p = err_from_is_err_and c.from_residual.result c.from_residual.ensures.1 in rw (p.1, p.2) (block_answer _ c.requires.room (sees_head (sign S_OpenBrace) c.in-Some.ensures.some) (and_ok (sees_got c.in-Some.ensures.some) (and_failed _ c.in_err-items.ensures.answer)))

pub parse_nested-returns-in_err-block-clause-answer : goal.parse_nested-returns-in_err-block-clause-answer
parse_nested-returns-in_err-block-clause-answer t c =
    let p = err_from_is_err_and c.from_residual-in_err-block.result c.from_residual-in_err-block.ensures.1 in rw (p.1, p.2) no_memory

pub parse_nested-returns-in-Some-clause-answer : goal.parse_nested-returns-in-Some-clause-answer
parse_nested-returns-in-Some-clause-answer t c =
    let e = sym (ap statement_view c.in_ok-block.ensures ∙ ap (λ z. block c.in-Some.at z) (statements_are_list c.in_ok-items.items ∙ statements_are c.in_ok-items.items.items)) in
    subst (λ z. Exact (Stmt c.args.depth) (StmtClosed c.args.depth) c.args.tokens.now (Got z c.in_ok-items.rest.now)) e (block_answer _ c.requires.room (sees_head (sign S_OpenBrace) c.in-Some.ensures.some) (and_ok (sees_got c.in-Some.ensures.some) (and_ok c.in_ok-items.ensures.answer and_done)))

pub parse_nested-returns-in-Some-key_at-clause-answer : goal.parse_nested-returns-in-Some-key_at-clause-answer
parse_nested-returns-in-Some-key_at-clause-answer t c =
    if_answer _ c.requires.room (sees_head (key K_If) c.in-Some-key_at.ensures.some) (and_ok (sees_got c.in-Some-key_at.ensures.some) c.parse_if.ensures.answer)

pub parse_nested-returns-in-Some-key_at-2-clause-answer : goal.parse_nested-returns-in-Some-key_at-2-clause-answer
parse_nested-returns-in-Some-key_at-2-clause-answer t c =
    while_answer _ c.requires.room (sees_head (key K_While) c.in-Some-key_at-2.ensures.some) (and_ok (sees_got c.in-Some-key_at-2.ensures.some) c.parse_while.ensures.answer)

pub parse_nested-returns-in_default-key_at-3-clause-answer : goal.parse_nested-returns-in_default-key_at-3-clause-answer
parse_nested-returns-in_default-key_at-3-clause-answer t c =
    absurd (none_nested c.args.tokens.now c.requires.nested c.in_default.ensures.none c.in_default-key_at.ensures.none c.in_default-key_at-2.ensures.none c.in_default-key_at-3.ensures.none)

pub parse_nested-returns-clause-answer : goal.parse_nested-returns-clause-answer
parse_nested-returns-clause-answer t c =
    for_answer _ c.requires.room (sees_head (key K_For) c.in-Some-key_at-3.ensures.some) (and_ok (sees_got c.in-Some-key_at-3.ensures.some) c.parse_for.ensures.answer)

pub parse_statement-returns-then-depth-eq-DEEPEST-clause-answer : goal.parse_statement-returns-then-depth-eq-DEEPEST-clause-answer
parse_statement-returns-then-depth-eq-DEEPEST-clause-answer t c =
    nested_deep c.args.depth c.args.tokens.now (λ k. omega (arith, k, c.if-depth-eq-DEEPEST.true)) (sym c.begins_nested.ensures ∙ c.if-begins_nested.true)

pub parse_statement-returns-then-begins_nested-clause-answer : goal.parse_statement-returns-then-begins_nested-clause-answer
parse_statement-returns-then-begins_nested-clause-answer t c =
    c.parse_nested.ensures.answer

pub parse_statement-returns-in-Some-clause-answer : goal.parse_statement-returns-in-Some-clause-answer
parse_statement-returns-in-Some-clause-answer t c =
    rw c.in_ok-empty.ensures (nothing_answer _ (sees_head (sign S_Semicolon) c.in-Some.ensures.some) (and_ok (sees_got c.in-Some.ensures.some) and_done))

pub parse_statement-returns-in_err-empty-clause-answer : goal.parse_statement-returns-in_err-empty-clause-answer
parse_statement-returns-in_err-empty-clause-answer t c =
    let p = err_from_is_err_and c.from_residual.result c.from_residual.ensures.1 in rw (p.1, p.2) no_memory

pub parse_statement-returns-in-Some-clause-shut : goal.parse_statement-returns-in-Some-clause-shut
parse_statement-returns-in-Some-clause-shut t c =
    rw c.in_ok-empty.ensures (λ _. refl)

pub parse_statement-returns-in-Some-key_at-clause-answer : goal.parse_statement-returns-in-Some-key_at-clause-answer
parse_statement-returns-in-Some-key_at-clause-answer t c =
    return_answer _ (sees_head (key K_Return) c.in-Some-key_at.ensures.some) (and_ok (sees_got c.in-Some-key_at.ensures.some) c.parse_return.ensures.answer)

pub parse_statement-returns-in-Some-key_at-2-clause-answer : goal.parse_statement-returns-in-Some-key_at-2-clause-answer
parse_statement-returns-in-Some-key_at-2-clause-answer t c =
    print_answer _ (sees_head (key K_Print) c.in-Some-key_at-2.ensures.some) (and_ok (sees_got c.in-Some-key_at-2.ensures.some) c.parse_print.ensures.answer)

pub parse_statement-returns-clause-answer : goal.parse_statement-returns-clause-answer
parse_statement-returns-clause-answer t c =
    let n = not_nested c.args.tokens.now (sym c.begins_nested.ensures ∙ c.if-begins_nested.false) in chain_answer _ c.in_default.ensures.none n.no_brace n.no_if n.no_while n.no_for c.in_default-key_at.ensures.none c.in_default-key_at-2.ensures.none c.parse_simple.ensures.answer

pub parse_statement-returns-in-Some-key_at-clause-shut : goal.parse_statement-returns-in-Some-key_at-clause-shut
parse_statement-returns-in-Some-key_at-clause-shut t c =
    tail_shut (return_shut _) c.parse_return.result c.parse_return.ensures.answer

pub parse_statement-returns-in-Some-key_at-2-clause-shut : goal.parse_statement-returns-in-Some-key_at-2-clause-shut
parse_statement-returns-in-Some-key_at-2-clause-shut t c =
    tail_shut (print_shut _) c.parse_print.result c.parse_print.ensures.answer

pub parse_statement-returns-clause-shut : goal.parse_statement-returns-clause-shut
parse_statement-returns-clause-shut t c =
    tail_shut simple_shut c.parse_simple.result c.parse_simple.ensures.answer

pub parse_item-returns-then-begins_local : goal.parse_item-returns-then-begins_local
parse_item-returns-then-begins_local t c =
    record { answer = item_answer _ (local_answer (other_statement _) (sym c.begins_local.ensures ∙ c.if-begins_local.true) c.parse_local.ensures.answer) }

pub parse_item-returns : goal.parse_item-returns
parse_item-returns t c =
    record { answer = item_answer _ (other_answer (other_statement _) (sym c.begins_local.ensures ∙ c.if-begins_local.false) c.parse_statement.ensures.answer) }

pub parse_if-returns-in_err-cond-clause-answer : goal.parse_if-returns-in_err-cond-clause-answer
parse_if-returns-in_err-cond-clause-answer t c =
    let p = err_from_is_err_and c.from_residual.result c.from_residual.ensures.1 in rw (p.1, p.2) (if_rest_answer _ _ (and_failed _ c.in_err-cond.ensures.answer))

pub parse_if-returns-in_err-yes-clause-answer : goal.parse_if-returns-in_err-yes-clause-answer
parse_if-returns-in_err-yes-clause-answer t c =
    let p = err_from_is_err_and c.from_residual-in_err-yes.result c.from_residual-in_err-yes.ensures.1 in rw (p.1, p.2) (if_rest_answer _ _ (and_ok c.in_ok-cond.ensures.answer (and_failed _ c.in_err-yes.ensures.answer)))

pub parse_if-returns-in_err-whole-clause-answer : goal.parse_if-returns-in_err-whole-clause-answer
parse_if-returns-in_err-whole-clause-answer t c =
    let p = err_from_is_err_and c.from_residual-in_err-whole.result c.from_residual-in_err-whole.ensures.1 in rw (p.1, p.2) no_memory

pub parse_if-returns-in_default-clause-answer : goal.parse_if-returns-in_default-clause-answer
parse_if-returns-in_default-clause-answer t c =
    rw c.in_ok-whole.ensures (if_rest_answer _ _ (and_ok c.in_ok-cond.ensures.answer (and_ok c.in_ok-yes.ensures.answer (without_answer _ _ _ _ c.in_default.ensures.none))))

pub parse_if-returns-in_err-other-clause-answer : goal.parse_if-returns-in_err-other-clause-answer
parse_if-returns-in_err-other-clause-answer t c =
    let p = err_from_is_err_and c.from_residual-in_err-other.result c.from_residual-in_err-other.ensures.1 in
    let d = c.in-Some.ensures.some in
    rw (p.1, p.2) (if_rest_answer _ _ (and_ok c.in_ok-cond.ensures.answer (and_ok c.in_ok-yes.ensures.answer (else_answer _ _ _ _ (c.in_ok-yes.ensures.shut (ap is_some (sees_head (key K_Else) d))) (sees_head (key K_Else) d)
    (and_ok (sees_got d) (and_failed _ c.in_err-other.ensures.answer))))))

pub parse_if-returns-in_err-whole-2-clause-answer : goal.parse_if-returns-in_err-whole-2-clause-answer
parse_if-returns-in_err-whole-2-clause-answer t c =
    let p = err_from_is_err_and c.from_residual-in_err-whole-2.result c.from_residual-in_err-whole-2.ensures.1 in rw (p.1, p.2) no_memory

pub parse_if-returns-clause-answer : goal.parse_if-returns-clause-answer
parse_if-returns-clause-answer t c =
    let d = c.in-Some.ensures.some in
    rw c.in_ok-whole-2.ensures (if_rest_answer _ _ (and_ok c.in_ok-cond.ensures.answer (and_ok c.in_ok-yes.ensures.answer (else_answer _ _ _ _ (c.in_ok-yes.ensures.shut (ap is_some (sees_head (key K_Else) d))) (sees_head (key K_Else) d)
    (and_ok (sees_got d) (and_ok c.in_ok-other.ensures.answer and_done))))))

pub parse_if-returns-clause-shut : goal.parse_if-returns-clause-shut
parse_if-returns-clause-shut t c =
    rw c.in_ok-whole-2.ensures c.in_ok-other.ensures.shut

pub parse_if-parse_statement-requires-2 : goal.parse_if-parse_statement-requires-2
parse_if-parse_statement-requires-2 t c =
    omega (arith, c.requires, sees_shorter c.in-Some.ensures.some, no_longer c.in_ok-yes.ensures.answer, c.in_ok-cond.ensures.shorter)

pub parse_while-returns-in_err-cond-clause-answer : goal.parse_while-returns-in_err-cond-clause-answer
parse_while-returns-in_err-cond-clause-answer t c =
    let p = err_from_is_err_and c.from_residual.result c.from_residual.ensures.1 in rw (p.1, p.2) (while_rest_answer _ _ (and_failed _ c.in_err-cond.ensures.answer))

pub parse_while-returns-in_err-body-clause-answer : goal.parse_while-returns-in_err-body-clause-answer
parse_while-returns-in_err-body-clause-answer t c =
    let p = err_from_is_err_and c.from_residual-in_err-body.result c.from_residual-in_err-body.ensures.1 in rw (p.1, p.2) (while_rest_answer _ _ (and_ok c.in_ok-cond.ensures.answer (and_failed _ c.in_err-body.ensures.answer)))

pub parse_while-returns-in_err-whole-clause-answer : goal.parse_while-returns-in_err-whole-clause-answer
parse_while-returns-in_err-whole-clause-answer t c =
    let p = err_from_is_err_and c.from_residual-in_err-whole.result c.from_residual-in_err-whole.ensures.1 in rw (p.1, p.2) no_memory

pub parse_while-returns-clause-answer : goal.parse_while-returns-clause-answer
parse_while-returns-clause-answer t c =
    rw c.in_ok-whole.ensures (while_rest_answer _ _ (and_ok c.in_ok-cond.ensures.answer (and_ok c.in_ok-body.ensures.answer and_done)))

pub parse_while-returns-clause-shut : goal.parse_while-returns-clause-shut
parse_while-returns-clause-shut t c =
    rw c.in_ok-whole.ensures c.in_ok-body.ensures.shut

pub parse_for-returns-in_err-rest-clause-answer : goal.parse_for-returns-in_err-rest-clause-answer
parse_for-returns-in_err-rest-clause-answer t c =
    let p = err_from_is_err_and c.from_residual.result c.from_residual.ensures.1 in rw (p.1, p.2) (for_rest_answer _ _ (and_failed _ c.in_err-rest.ensures.answer))

pub parse_for-returns-in_err-first-clause-answer : goal.parse_for-returns-in_err-first-clause-answer
parse_for-returns-in_err-first-clause-answer t c =
    let p = err_from_is_err_and c.from_residual-in_err-first.result c.from_residual-in_err-first.ensures.1 in rw (p.1, p.2) (for_rest_answer _ _ (and_ok c.in_ok-rest.ensures.answer (and_failed _ c.in_err-first.ensures.answer)))

pub parse_for-returns-in_err-cond-clause-answer : goal.parse_for-returns-in_err-cond-clause-answer
parse_for-returns-in_err-cond-clause-answer t c =
    let p = err_from_is_err_and c.from_residual-in_err-cond.result c.from_residual-in_err-cond.ensures.1 in rw (p.1, p.2) (for_rest_answer _ _ (and_ok c.in_ok-rest.ensures.answer (and_ok c.in_ok-first.ensures.answer (and_failed _ c.in_err-cond.ensures.answer))))

pub parse_for-returns-in_err-rest-2-clause-answer : goal.parse_for-returns-in_err-rest-2-clause-answer
parse_for-returns-in_err-rest-2-clause-answer t c =
    let p = err_from_is_err_and c.from_residual-in_err-rest-2.result c.from_residual-in_err-rest-2.ensures.1 in rw (p.1, p.2) (for_rest_answer _ _ (and_ok c.in_ok-rest.ensures.answer (and_ok c.in_ok-first.ensures.answer (and_ok c.in_ok-cond.ensures.answer (and_failed _ c.in_err-rest-2.ensures.answer)))))

pub parse_for-returns-in_err-next-clause-answer : goal.parse_for-returns-in_err-next-clause-answer
parse_for-returns-in_err-next-clause-answer t c =
    let p = err_from_is_err_and c.from_residual-in_err-next.result c.from_residual-in_err-next.ensures.1 in rw (p.1, p.2) (for_rest_answer _ _ (and_ok c.in_ok-rest.ensures.answer (and_ok c.in_ok-first.ensures.answer (and_ok c.in_ok-cond.ensures.answer (and_ok c.in_ok-rest-2.ensures.answer (and_failed _ c.in_err-next.ensures.answer))))))

pub parse_for-returns-in_err-rest-3-clause-answer : goal.parse_for-returns-in_err-rest-3-clause-answer
parse_for-returns-in_err-rest-3-clause-answer t c =
    let p = err_from_is_err_and c.from_residual-in_err-rest-3.result c.from_residual-in_err-rest-3.ensures.1 in rw (p.1, p.2) (for_rest_answer _ _ (and_ok c.in_ok-rest.ensures.answer (and_ok c.in_ok-first.ensures.answer (and_ok c.in_ok-cond.ensures.answer (and_ok c.in_ok-rest-2.ensures.answer (and_ok c.in_ok-next.ensures.answer (and_failed _ c.in_err-rest-3.ensures.answer)))))))

pub parse_for-returns-in_err-body-clause-answer : goal.parse_for-returns-in_err-body-clause-answer
parse_for-returns-in_err-body-clause-answer t c =
    let p = err_from_is_err_and c.from_residual-in_err-body.result c.from_residual-in_err-body.ensures.1 in rw (p.1, p.2) (for_rest_answer _ _ (and_ok c.in_ok-rest.ensures.answer (and_ok c.in_ok-first.ensures.answer (and_ok c.in_ok-cond.ensures.answer (and_ok c.in_ok-rest-2.ensures.answer (and_ok c.in_ok-next.ensures.answer (and_ok c.in_ok-rest-3.ensures.answer (and_failed _ c.in_err-body.ensures.answer))))))))

pub parse_for-returns-in_err-whole-clause-answer : goal.parse_for-returns-in_err-whole-clause-answer
parse_for-returns-in_err-whole-clause-answer t c =
    let p = err_from_is_err_and c.from_residual-in_err-whole.result c.from_residual-in_err-whole.ensures.1 in rw (p.1, p.2) no_memory

pub parse_for-returns-clause-answer : goal.parse_for-returns-clause-answer
parse_for-returns-clause-answer t c =
    rw c.in_ok-whole.ensures (for_rest_answer _ _ (and_ok c.in_ok-rest.ensures.answer (and_ok c.in_ok-first.ensures.answer (and_ok c.in_ok-cond.ensures.answer (and_ok c.in_ok-rest-2.ensures.answer (and_ok c.in_ok-next.ensures.answer (and_ok c.in_ok-rest-3.ensures.answer (and_ok c.in_ok-body.ensures.answer and_done))))))))

pub parse_for-returns-clause-shut : goal.parse_for-returns-clause-shut
parse_for-returns-clause-shut t c =
    rw c.in_ok-whole.ensures c.in_ok-body.ensures.shut

pub parse_items-returns-in_err-item : goal.parse_items-returns-in_err-item
parse_items-returns-in_err-item t c =
    let p = err_from_is_err_and c.from_residual.result c.from_residual.ensures.1 in record { answer = rw (p.1, p.2) (items_answer (loop_failed (item_lines _) _ c.items.invariant.0 (none_of _ (sym c.is_sign.ensures ∙ c.items-test.true)) (one_answer c.in_err-item.ensures.answer))) }

pub parse_items-returns-in_err-add : goal.parse_items-returns-in_err-add
parse_items-returns-in_err-add t c =
    let p = err_from_is_err_and c.from_residual-in_err-add.result c.from_residual-in_err-add.ensures.1 in record { answer = rw (p.1, p.2) (no_memory) }

pub parse_items-items-preserved : goal.parse_items-items-preserved
parse_items-items-preserved t c =
    let e = ap (map statement_view) c.in_ok-add.ensures ∙ map-append statement_view c.items.out.items (c.in_ok-item.item.value ∷ []) in (rw e (loop_more (item_lines _) c.items.invariant.0 (none_of _ (sym c.is_sign.ensures ∙ c.items-test.true)) (one_answer c.in_ok-item.ensures.answer)), omega (arith, no_longer c.in_ok-item.ensures.answer, c.items.invariant.1))

pub parse_items-returns-in_err-rest : goal.parse_items-returns-in_err-rest
parse_items-returns-in_err-rest t c =
    let p = err_from_is_err_and c.from_residual-in_err-rest.result c.from_residual-in_err-rest.ensures.1 in record { answer = rw (p.1, p.2) (items_answer (loop_unclosed (item_lines _) _ c.items.invariant.0 (some_of _ (sym c.is_sign.ensures ∙ c.items-test.false)).1 c.in_err-rest.ensures.answer)) }

pub parse_items-returns : goal.parse_items-returns
parse_items-returns t c =
    record { answer = items_answer (loop_end (item_lines _) c.items.invariant.0 (some_of _ (sym c.is_sign.ensures ∙ c.items-test.false)).1 c.in_ok-rest.ensures.answer) }

pub parse_items-items-smaller : goal.parse_items-items-smaller
parse_items-items-smaller t c =
    shrinks (λ free r x d. no_item _ _ _ _ d) c.in_ok-item.ensures.answer
