use Rattle.std.proofs.Common.{◌≡◌, ◌-◌, ◌<◌, [], ◌∷◌, sym, ◌∙◌, ap, subst, map, arith}
use Rattle.std.proofs.lemmas.Result.{err_from_is_err_and}
use Rattle.std.proofs.lemmas.List.{map-append}
use Rattle.ca_descent.specs.Exact.{Unlimited, Got, Failed, Exact}
use Rattle.ca_descent.proofs.Exact.{sees_got, sees_head}
use Rattle.ca_descent.proofs.Parts.{and_ok, and_failed, and_done}
use Rattle.ca_descent.proofs.Separated.{separated_more}
use Rattle.ca_tree.specs.declared.token.Keyword.TheVariants.{This}
use Rattle.ca_tree.specs.declared.token.Sign.TheVariants.{OpenParenthesis, OpenBracket}
use Rattle.ca_tree.specs.declared.operators.TheConstants.{LEVELS}
use Rattle.ca_tree.specs.Operators.{unary_level}
use Rattle.ca_tree.specs.Plain.{call}
use Rattle.ca_tree.specs.View.{expression_view}
use Rattle.ca_tree.proofs.Rows.{call_is}
use Rattle.ca_expressions.specs.Terminals.{key, sign, literal, unary_operator, operator, word_operator}
use Rattle.ca_expressions.specs.Grammar.{Level, Tails}
use Rattle.ca_expressions.specs.Readers.{failure, answer, node_view, Closed}
use Rattle.ca_expressions.proofs.Fronts.{some_of, none_of}
use Rattle.ca_expressions.proofs.Lists.{listed_none, listed_failed, commas_more, commas_failed, commas_end, commas_wrong, expressions_are}
use Rattle.ca_expressions.proofs.Rules.{above_failed, level_below, unary_answer, operand_answer, operands_stop, sign_answer, primary_answer, literal_answer, bracket_answer, chain_answer, word_answer, sides_answer}
use Rattle.ca_expressions.proofs.ChainRules.{this_answer, name_answer, plain_answer, called_answer, tails_answer, tails_stop, index_answer, member_answer, field_answer, method_answer, argument_rule, args_answer}
use Rattle.ca_expressions.proofs.inner.+expression.Goals as goal

-- levels
pub parse_level-returns-in_err-front-clause-answer : goal.parse_level-returns-in_err-front-clause-answer
parse_level-returns-in_err-front-clause-answer t c =
    let p = err_from_is_err_and c.from_residual.result c.from_residual.ensures.1 in
    rw (p.1, p.2) (above_failed c.args.level LEVELS (failure c.in_err-front.field-0.0) c.requires (omega arith) (unary_answer c.in_err-front.ensures.answer))

pub parse_level-levels-init : goal.parse_level-levels-init
parse_level-levels-init t c = (unary_answer c.in_ok-front.ensures.answer, c.requires, omega arith, c.in_ok-front.ensures.shorter)

pub parse_level-returns-in_err-front-2-clause-answer : goal.parse_level-returns-in_err-front-2-clause-answer
parse_level-returns-in_err-front-2-clause-answer t c =
    let p = err_from_is_err_and c.from_residual-in_err-front-2.result c.from_residual-in_err-front-2.ensures.1 in
    let i = c.levels.invariant in
    let n = c.levels.reached in
    let more : c.args.level < n = omega (arith, c.levels-test.true) in
    rw (p.1, p.2) (above_failed c.args.level (n - 1) (failure c.in_err-front-2.field-0.0) (omega (arith, more)) (omega (arith, i.2))
    (level_below n (omega (arith, more)) i.2 i.0 c.in_err-front-2.ensures.answer))

pub parse_level-levels-preserved : goal.parse_level-levels-preserved
parse_level-levels-preserved t c =
    let i = c.levels.invariant in
    let n = c.levels.reached in
    let more : c.args.level < n = omega (arith, c.levels-test.true) in (
      level_below n (omega (arith, more)) i.2 i.0 c.in_ok-front-2.ensures.answer,
      omega (arith, more),
      omega (arith, i.2),
      omega (arith, i.3, c.in_ok-front-2.ensures.shorter),
    )

pub parse_level-returns-clause-answer : goal.parse_level-returns-clause-answer
parse_level-returns-clause-answer t c =
    let i = c.levels.invariant in
    let e : c.levels.reached ≡ c.args.level = omega (arith, c.levels-test.false, i.1) in
    subst (λ z. Exact (Unlimited (Level z)) (Closed z (Level z)) c.args.tokens.now (Got (node_view c.levels.front) c.levels.rest.now)) e i.0

pub parse_level-returns-clause-shorter : goal.parse_level-returns-clause-shorter
parse_level-returns-clause-shorter t c = c.levels.invariant.3

-- operators of a level
pub parse_operands-operators-init : goal.parse_operands-operators-init
parse_operands-operators-init t c = (λ o d. d, omega arith)

pub parse_operands-returns-in_err-operand-clause-answer : goal.parse_operands-returns-in_err-operand-clause-answer
parse_operands-returns-in_err-operand-clause-answer t c =
    let p = err_from_is_err_and c.from_residual.result c.from_residual.ensures.1 in
    let d = c.in-Some.ensures.some in
    rw (p.1, p.2) (c.operators.invariant.0 (Failed (failure c.in_err-operand.field-0.0))
    (operand_answer c.args.level _ (sees_head (operator c.args.level) d) (and_ok (sees_got d) (and_failed _ c.in_err-operand.ensures.answer))))

pub parse_operands-operators-smaller : goal.parse_operands-operators-smaller
parse_operands-operators-smaller t c = omega (arith, c.in_ok-operand.ensures.shorter, c.in-Some.ensures.shorter)

pub parse_operands-operators-preserved : goal.parse_operands-operators-preserved
parse_operands-operators-preserved t c = (
  λ o d.
      let e = c.in_ok-front.ensures in
      let s = c.in-Some.ensures.some in
      c.operators.invariant.0 o (operand_answer c.args.level _ (sees_head (operator c.args.level) s) (and_ok (sees_got s)
      (and_ok c.in_ok-operand.ensures.answer (rw e at d)))),
  omega (arith, c.operators.invariant.1, c.in_ok-operand.ensures.shorter, c.in-Some.ensures.shorter),
)

pub parse_operands-returns-clause-answer : goal.parse_operands-returns-clause-answer
parse_operands-returns-clause-answer t c =
    c.operators.invariant.0 (Got (node_view c.operators.front) c.operators.rest.now) (operands_stop c.args.level _ c.in_default.ensures.none)

pub parse_operands-returns-clause-shorter : goal.parse_operands-returns-clause-shorter
parse_operands-returns-clause-shorter t c = c.operators.invariant.1

-- unary operators
pub parse_unary-returns-in_default-clause-answer : goal.parse_unary-returns-in_default-clause-answer
parse_unary-returns-in_default-clause-answer t c = primary_answer c.in_default.ensures.none c.parse_primary.ensures.answer

pub parse_unary-returns-in_err-inner-clause-answer : goal.parse_unary-returns-in_err-inner-clause-answer
parse_unary-returns-in_err-inner-clause-answer t c =
    let p = err_from_is_err_and c.from_residual.result c.from_residual.ensures.1 in
    let d = c.in-Some.ensures.some in
    rw (p.1, p.2) (sign_answer (sees_head unary_operator d) (and_ok (sees_got d) (and_failed _ c.in_err-inner.ensures.answer)))

pub parse_unary-returns-clause-answer : goal.parse_unary-returns-clause-answer
parse_unary-returns-clause-answer t c =
    let d = c.in-Some.ensures.some in
    let e = c.in_ok-node.ensures in
    rw e (sign_answer (sees_head unary_operator d) (and_ok (sees_got d) (and_ok c.in_ok-inner.ensures.answer and_done)))

-- primary expressions
pub parse_primary-returns-in-Some-clause-answer : goal.parse_primary-returns-in-Some-clause-answer
parse_primary-returns-in-Some-clause-answer t c =
    let d = c.in-Some.ensures.some in
    let e = ap expression_view c.in_ok-literal.ensures in
    rw e (literal_answer (sees_head literal d) (and_ok (sees_got d) and_done))

pub parse_primary-returns-in_default-sign_at-clause-answer : goal.parse_primary-returns-in_default-sign_at-clause-answer
parse_primary-returns-in_default-sign_at-clause-answer t c =
    chain_answer c.in_default.ensures.none c.in_default-word_at.ensures.none c.in_default-sign_at.ensures.none c.parse_inner_chain.ensures.answer

pub parse_primary-returns-in_err-inner-clause-answer : goal.parse_primary-returns-in_err-inner-clause-answer
parse_primary-returns-in_err-inner-clause-answer t c =
    let p = err_from_is_err_and c.from_residual-in_err-inner.result c.from_residual-in_err-inner.ensures.1 in
    let d = c.in-Some-sign_at.ensures.some in
    rw (p.1, p.2) (bracket_answer (sees_head (sign OpenParenthesis) d) (and_ok (sees_got d) (and_failed _ c.in_err-inner.ensures.answer)))

pub parse_primary-returns-in_err-rest-clause-answer : goal.parse_primary-returns-in_err-rest-clause-answer
parse_primary-returns-in_err-rest-clause-answer t c =
    let p = err_from_is_err_and c.from_residual-in_err-rest.result c.from_residual-in_err-rest.ensures.1 in
    let d = c.in-Some-sign_at.ensures.some in
    rw (p.1, p.2) (bracket_answer (sees_head (sign OpenParenthesis) d) (and_ok (sees_got d) (and_ok c.in_ok-inner.ensures.answer
    (and_failed _ c.in_err-rest.ensures.answer))))

pub parse_primary-returns-clause-answer : goal.parse_primary-returns-clause-answer
parse_primary-returns-clause-answer t c =
    let d = c.in-Some-sign_at.ensures.some in
    bracket_answer (sees_head (sign OpenParenthesis) d) (and_ok (sees_got d) (and_ok c.in_ok-inner.ensures.answer
    (and_ok c.in_ok-rest.ensures.answer c.parse_tails.ensures.answer)))

pub parse_primary-returns-in-Some-word_at-clause-answer : goal.parse_primary-returns-in-Some-word_at-clause-answer
parse_primary-returns-in-Some-word_at-clause-answer t c =
    let d = c.in-Some-word_at.ensures.some in
    word_answer (sees_head word_operator d) (and_ok (sees_got d) c.parse_by_word.ensures.answer)

-- sides of an operator that is written by a key word
pub parse_by_word-returns-in_err-rest-clause-answer : goal.parse_by_word-returns-in_err-rest-clause-answer
parse_by_word-returns-in_err-rest-clause-answer t c =
    let p = err_from_is_err_and c.from_residual.result c.from_residual.ensures.1 in
    rw (p.1, p.2) (sides_answer c.args.found (and_failed _ c.in_err-rest.ensures.answer))

pub parse_by_word-returns-in_err-left-clause-answer : goal.parse_by_word-returns-in_err-left-clause-answer
parse_by_word-returns-in_err-left-clause-answer t c =
    let p = err_from_is_err_and c.from_residual-in_err-left.result c.from_residual-in_err-left.ensures.1 in
    rw (p.1, p.2) (sides_answer c.args.found (and_ok c.in_ok-rest.ensures.answer (and_failed _ c.in_err-left.ensures.answer)))

pub parse_by_word-returns-in_err-rest-2-clause-answer : goal.parse_by_word-returns-in_err-rest-2-clause-answer
parse_by_word-returns-in_err-rest-2-clause-answer t c =
    let p = err_from_is_err_and c.from_residual-in_err-rest-2.result c.from_residual-in_err-rest-2.ensures.1 in
    rw (p.1, p.2) (sides_answer c.args.found (and_ok c.in_ok-rest.ensures.answer (and_ok c.in_ok-left.ensures.answer (and_failed _ c.in_err-rest-2.ensures.answer))))

pub parse_by_word-returns-in_err-right-clause-answer : goal.parse_by_word-returns-in_err-right-clause-answer
parse_by_word-returns-in_err-right-clause-answer t c =
    let p = err_from_is_err_and c.from_residual-in_err-right.result c.from_residual-in_err-right.ensures.1 in
    rw (p.1, p.2) (sides_answer c.args.found (and_ok c.in_ok-rest.ensures.answer (and_ok c.in_ok-left.ensures.answer (and_ok c.in_ok-rest-2.ensures.answer (and_failed _ c.in_err-right.ensures.answer)))))

pub parse_by_word-returns-in_err-rest-3-clause-answer : goal.parse_by_word-returns-in_err-rest-3-clause-answer
parse_by_word-returns-in_err-rest-3-clause-answer t c =
    let p = err_from_is_err_and c.from_residual-in_err-rest-3.result c.from_residual-in_err-rest-3.ensures.1 in
    rw (p.1, p.2) (sides_answer c.args.found (and_ok c.in_ok-rest.ensures.answer (and_ok c.in_ok-left.ensures.answer (and_ok c.in_ok-rest-2.ensures.answer (and_ok c.in_ok-right.ensures.answer (and_failed _ c.in_err-rest-3.ensures.answer))))))

pub parse_by_word-returns-clause-answer : goal.parse_by_word-returns-clause-answer
parse_by_word-returns-clause-answer t c =
    let e = c.in_ok-node.ensures in
    rw e (sides_answer c.args.found (and_ok c.in_ok-rest.ensures.answer (and_ok c.in_ok-left.ensures.answer (and_ok c.in_ok-rest-2.ensures.answer (and_ok c.in_ok-right.ensures.answer (and_ok c.in_ok-rest-3.ensures.answer and_done))))))

-- chains
pub parse_inner_chain-returns-in-Some-clause-answer : goal.parse_inner_chain-returns-in-Some-clause-answer
parse_inner_chain-returns-in-Some-clause-answer t c =
    let d = c.in-Some.ensures.some in
    let e = ap expression_view c.in_ok-front.ensures in
    this_answer (sees_head (key This) d) (and_ok (sees_got d)
    (subst (λ z. Exact (Unlimited (Tails z)) (Closed unary_level (Tails z)) c.in-Some.rest.now (answer node_view c.parse_tails.result)) e c.parse_tails.ensures.answer))

pub parse_inner_chain-returns-in_err-name-clause-answer : goal.parse_inner_chain-returns-in_err-name-clause-answer
parse_inner_chain-returns-in_err-name-clause-answer t c =
    let p = err_from_is_err_and c.from_residual-in_err-name.result c.from_residual-in_err-name.ensures.1 in
    rw (p.1, p.2) (name_answer c.in_default.ensures.none (and_failed _ c.in_err-name.ensures.answer))

pub parse_inner_chain-returns-then-not-is_sign-clause-answer : goal.parse_inner_chain-returns-then-not-is_sign-clause-answer
parse_inner_chain-returns-then-not-is_sign-clause-answer t c =
    let e = ap expression_view c.in_ok-front-2.ensures in
    name_answer c.in_default.ensures.none (and_ok c.in_ok-name.ensures.answer
    (plain_answer (c.in_ok-name.name, c.in_ok-name.at) (none_of _ (sym c.is_sign.ensures ∙ c.if-not-is_sign.true))
    (subst (λ z. Exact (Unlimited (Tails z)) (Closed unary_level (Tails z)) c.in_ok-name.rest.now (answer node_view c.parse_tails-then-not-is_sign.result)) e c.parse_tails-then-not-is_sign.ensures.answer)))

pub parse_inner_chain-returns-in_err-args-clause-answer : goal.parse_inner_chain-returns-in_err-args-clause-answer
parse_inner_chain-returns-in_err-args-clause-answer t c =
    let p = err_from_is_err_and c.from_residual-in_err-args.result c.from_residual-in_err-args.ensures.1 in
    let h = some_of _ (sym c.is_sign.ensures ∙ c.if-not-is_sign.false) in
    rw (p.1, p.2) (name_answer c.in_default.ensures.none (and_ok c.in_ok-name.ensures.answer
    (called_answer (c.in_ok-name.name, c.in_ok-name.at) h.1 (and_failed _ c.in_err-args.ensures.answer))))

pub parse_inner_chain-returns-clause-answer : goal.parse_inner_chain-returns-clause-answer
parse_inner_chain-returns-clause-answer t c =
    let h = some_of _ (sym c.is_sign.ensures ∙ c.if-not-is_sign.false) in
    let e = ap expression_view c.in_ok-front-3.ensures
    ∙ (call_is c.in_ok-name.at c.in_ok-name.name c.in_ok-args.args
    ∙ ap (λ z. call c.in_ok-name.at c.in_ok-name.name z) (expressions_are c.in_ok-args.args.items)) in
    name_answer c.in_default.ensures.none (and_ok c.in_ok-name.ensures.answer
    (called_answer (c.in_ok-name.name, c.in_ok-name.at) h.1 (and_ok c.in_ok-args.ensures.answer
    (subst (λ z. Exact (Unlimited (Tails z)) (Closed unary_level (Tails z)) c.in_ok-args.rest.now (answer node_view c.parse_tails-2.result)) e c.parse_tails-2.ensures.answer))))

-- tails
pub parse_tails-tails-init : goal.parse_tails-tails-init
parse_tails-tails-init t c = (λ o d. d, omega arith)

pub parse_tails-returns-in_err-front-clause-answer : goal.parse_tails-returns-in_err-front-clause-answer
parse_tails-returns-in_err-front-clause-answer t c =
    let p = err_from_is_err_and c.from_residual.result c.from_residual.ensures.1 in
    let h = some_of _ (sym c.is_tail.ensures ∙ c.tails-test.true) in
    rw (p.1, p.2) (c.tails.invariant.0 (Failed (failure c.in_err-front.field-0.0)) (tails_answer _ h.1 (and_failed _ c.in_err-front.ensures.answer)))

pub parse_tails-tails-smaller : goal.parse_tails-tails-smaller
parse_tails-tails-smaller t c = c.in_ok-front.ensures.shorter

pub parse_tails-tails-preserved : goal.parse_tails-tails-preserved
parse_tails-tails-preserved t c =
    let h = some_of _ (sym c.is_tail.ensures ∙ c.tails-test.true) in (
      λ o d. c.tails.invariant.0 o (tails_answer _ h.1 (and_ok c.in_ok-front.ensures.answer d)),
      omega (arith, c.tails.invariant.1, c.in_ok-front.ensures.shorter),
    )

pub parse_tails-returns-clause-answer : goal.parse_tails-returns-clause-answer
parse_tails-returns-clause-answer t c =
    c.tails.invariant.0 (Got (node_view c.tails.front) c.tails.rest.now) (tails_stop _ (none_of _ (sym c.is_tail.ensures ∙ c.tails-test.false)))

pub parse_tails-returns-clause-shorter : goal.parse_tails-returns-clause-shorter
parse_tails-returns-clause-shorter t c = c.tails.invariant.1

-- one tail
pub parse_tail-returns-in_err-item-clause-answer : goal.parse_tail-returns-in_err-item-clause-answer
parse_tail-returns-in_err-item-clause-answer t c =
    let p = err_from_is_err_and c.from_residual.result c.from_residual.ensures.1 in
    let d = c.in-Some.ensures.some in
    rw (p.1, p.2) (index_answer _ (sees_head (sign OpenBracket) d) (and_ok (sees_got d) (and_failed _ c.in_err-item.ensures.answer)))

pub parse_tail-returns-in_err-rest-clause-answer : goal.parse_tail-returns-in_err-rest-clause-answer
parse_tail-returns-in_err-rest-clause-answer t c =
    let p = err_from_is_err_and c.from_residual-in_err-rest.result c.from_residual-in_err-rest.ensures.1 in
    let d = c.in-Some.ensures.some in
    rw (p.1, p.2) (index_answer _ (sees_head (sign OpenBracket) d) (and_ok (sees_got d) (and_ok c.in_ok-item.ensures.answer
    (and_failed _ c.in_err-rest.ensures.answer))))

pub parse_tail-returns-in-Some-clause-answer : goal.parse_tail-returns-in-Some-clause-answer
parse_tail-returns-in-Some-clause-answer t c =
    let d = c.in-Some.ensures.some in
    let e = c.in_ok-node.ensures in
    rw e (index_answer _ (sees_head (sign OpenBracket) d) (and_ok (sees_got d) (and_ok c.in_ok-item.ensures.answer
    (and_ok c.in_ok-rest.ensures.answer and_done))))

pub parse_tail-returns-in_err-at-clause-answer : goal.parse_tail-returns-in_err-at-clause-answer
parse_tail-returns-in_err-at-clause-answer t c =
    let p = err_from_is_err_and c.from_residual-in_err-at.result c.from_residual-in_err-at.ensures.1 in
    rw (p.1, p.2) (member_answer _ c.in_default.ensures.none (and_failed _ c.in_err-at.ensures.answer))

pub parse_tail-returns-in_err-name-clause-answer : goal.parse_tail-returns-in_err-name-clause-answer
parse_tail-returns-in_err-name-clause-answer t c =
    let p = err_from_is_err_and c.from_residual-in_err-name.result c.from_residual-in_err-name.ensures.1 in
    rw (p.1, p.2) (member_answer _ c.in_default.ensures.none (and_ok c.in_ok-at.ensures.answer (and_failed _ c.in_err-name.ensures.answer)))

pub parse_tail-returns-then-not-is_sign-clause-answer : goal.parse_tail-returns-then-not-is_sign-clause-answer
parse_tail-returns-then-not-is_sign-clause-answer t c =
    let e = c.in_ok-node-2.ensures in
    rw e (member_answer _ c.in_default.ensures.none (and_ok c.in_ok-at.ensures.answer (and_ok c.in_ok-name.ensures.answer
    (field_answer _ _ _ (none_of _ (sym c.is_sign.ensures ∙ c.if-not-is_sign.true))))))

pub parse_tail-returns-in_err-args-clause-answer : goal.parse_tail-returns-in_err-args-clause-answer
parse_tail-returns-in_err-args-clause-answer t c =
    let p = err_from_is_err_and c.from_residual-in_err-args.result c.from_residual-in_err-args.ensures.1 in
    let h = some_of _ (sym c.is_sign.ensures ∙ c.if-not-is_sign.false) in
    rw (p.1, p.2) (member_answer _ c.in_default.ensures.none (and_ok c.in_ok-at.ensures.answer (and_ok c.in_ok-name.ensures.answer
    (method_answer _ _ _ h.1 (and_failed _ c.in_err-args.ensures.answer)))))

pub parse_tail-returns-clause-answer : goal.parse_tail-returns-clause-answer
parse_tail-returns-clause-answer t c =
    let h = some_of _ (sym c.is_sign.ensures ∙ c.if-not-is_sign.false) in
    let e = c.in_ok-node-3.ensures in
    rw e (member_answer _ c.in_default.ensures.none (and_ok c.in_ok-at.ensures.answer (and_ok c.in_ok-name.ensures.answer
    (method_answer _ _ _ h.1 (and_ok c.in_ok-args.ensures.answer and_done)))))

-- arguments
pub parse_args-returns-in_err-behind-clause-answer : goal.parse_args-returns-in_err-behind-clause-answer
parse_args-returns-in_err-behind-clause-answer t c =
    let p = err_from_is_err_and c.from_residual.result c.from_residual.ensures.1 in
    rw (p.1, p.2) (args_answer (and_failed _ c.in_err-behind.ensures.answer))

pub parse_args-returns-in-Some-clause-answer : goal.parse_args-returns-in-Some-clause-answer
parse_args-returns-in-Some-clause-answer t c =
    let n = c.new-out.ensures.items in
    rw n (args_answer (and_ok c.in_ok-behind.ensures.answer (listed_none argument_rule c.in-Some.ensures.some)))

pub parse_args-returns-in_err-first-clause-answer : goal.parse_args-returns-in_err-first-clause-answer
parse_args-returns-in_err-first-clause-answer t c =
    let p = err_from_is_err_and c.from_residual-in_err-first.result c.from_residual-in_err-first.ensures.1 in
    rw (p.1, p.2) (args_answer (and_ok c.in_ok-behind.ensures.answer (listed_failed argument_rule _ c.in_default.ensures.none c.in_err-first.ensures.answer)))

pub parse_args-more-init : goal.parse_args-more-init
parse_args-more-init t c =
    let n = c.new-out.ensures.items in
    let e = ap (map expression_view) c.in_ok-add.ensures in (
      rw (e, n) (record {
        go = λ o f. args_answer (and_ok c.in_ok-behind.ensures.answer (separated_more argument_rule c.in_default.ensures.none c.in_ok-first.ensures.answer f));
      }),
      omega (arith, c.in_ok-behind.ensures.shorter, c.in_ok-first.ensures.shorter),
    )

pub parse_args-returns-in_err-arg-clause-answer : goal.parse_args-returns-in_err-arg-clause-answer
parse_args-returns-in_err-arg-clause-answer t c =
    let p = err_from_is_err_and c.from_residual-in_err-arg.result c.from_residual-in_err-arg.ensures.1 in
    rw (p.1, p.2) (commas_failed argument_rule c.more.invariant.0 _ c.in-Some-sign_at.ensures.some c.in_err-arg.ensures.answer)

pub parse_args-more-smaller : goal.parse_args-more-smaller
parse_args-more-smaller t c = omega (arith, c.in_ok-arg.ensures.shorter, c.in-Some-sign_at.ensures.shorter)

pub parse_args-more-preserved : goal.parse_args-more-preserved
parse_args-more-preserved t c =
    let e = ap (map expression_view) c.in_ok-add-2.ensures ∙ map-append expression_view c.more.out.items (c.in_ok-arg.arg.value ∷ []) in (
      rw e (commas_more argument_rule c.more.invariant.0 c.in-Some-sign_at.ensures.some c.in_ok-arg.ensures.answer),
      omega (arith, c.more.invariant.1, c.in_ok-arg.ensures.shorter, c.in-Some-sign_at.ensures.shorter),
    )

pub parse_args-returns-in_default-sign_at-2-clause-answer : goal.parse_args-returns-in_default-sign_at-2-clause-answer
parse_args-returns-in_default-sign_at-2-clause-answer t c =
    commas_wrong argument_rule c.more.invariant.0 c.in_default-sign_at.ensures.none c.in_default-sign_at-2.ensures.none

pub parse_args-returns-clause-answer : goal.parse_args-returns-clause-answer
parse_args-returns-clause-answer t c = commas_end argument_rule c.more.invariant.0 c.in-Some-sign_at-2.ensures.some
