use Rattle.std.proofs.Common.{◌≡◌, sym, ap, ◌∙◌, subst, arith}
use Rattle.ca_tree.specs.Plain.{call, method, field, index, unary, binary}
use Rattle.ca_tree.specs.View.{kind_view, expression_view, expressions_view}
use Rattle.ca_tree.proofs.Rows.{call_is}
use Rattle.ca_tree.specs.declared.operators.Writing.TheVariants.{Between, Before}
use Rattle.ca_tree.specs.Operators.{level, writing}
use Rattle.ca_canonical.specs.Spell.{binds, spelled_by, spell_expression, spell_list}
use Rattle.ca_canonical.specs.Marks.{tokens}
use Rattle.ca_canonical.specs.clauses.Pens.{Writes}
use Rattle.ca_canonical.proofs.Writing.{nothing, then, all_left, no_token_left}
use Rattle.ca_canonical.proofs.Lists.{comma, argument_written, no_argument_left}
use Rattle.ca_canonical.proofs.Rows.{method_is}
use Rattle.ca_canonical.proofs.expressions.+expression.Goals as goal
use Rattle.ca_canonical.proofs.expressions.+expression.Goals.{write_arguments-then-begun, write_arguments-else-begun}

pub write_arguments-arguments-init : goal.write_arguments-arguments-init
write_arguments-arguments-init t c = all_left c.sign.new.self (tokens (spell_list (expressions_view c.args.arguments.now)))

pub write_arguments-arguments-preserved : goal.write_arguments-arguments-preserved
write_arguments-arguments-preserved t c =
    let before : Writes c.arguments.pen c.if-begun.pen (comma c.arguments.begun) = elim c.if-begun.branch [
      | write_arguments-then-begun w ↦ rw (w.pen-is, w.if-begun.true) w.sign-then-begun.ensures
      | write_arguments-else-begun w ↦ rw (w.pen-is, w.if-begun.false) (nothing c.arguments.pen)
    ] in
    argument_written c.arguments.begun c.args.arguments.now c.arguments.e-index c.e-item.result (omega arith) c.e-item.is c.arguments.invariant before c.write_expression.ensures

pub write_arguments-returns : goal.write_arguments-returns
write_arguments-returns t c = then c.sign.ensures (then (no_token_left c.arguments.invariant (no_argument_left c.arguments.begun c.args.arguments.now c.arguments.e-index (omega arith))) c.sign-2.ensures)

pub write_expression-returns-in-Call : goal.write_expression-returns-in-Call
write_expression-returns-in-Call t c =
    let at = c.args.e.now.at in
    let is : expression_view c.args.e.now ≡ call at c.in-Call.name (expressions_view c.in-Call.arguments.items) = ap (λ k. kind_view k at) c.in-Call.is ∙ call_is at c.in-Call.name c.in-Call.arguments in
    subst (λ x. Writes c.args.pen.now c.write_arguments.new.pen (spell_expression x)) (sym is)
    (then c.name-in-Call.ensures (rw c.deref.ensures.value at c.write_arguments.ensures))

pub write_expression-returns-in-Field : goal.write_expression-returns-in-Field
write_expression-returns-in-Field t c =
    let at = c.args.e.now.at in
    let is : expression_view c.args.e.now ≡ field at (expression_view c.in-Field.object.value) c.in-Field.name = ap (λ k. kind_view k at) c.in-Field.is in
    subst (λ x. Writes c.args.pen.now c.name-in-Field.new.self (spell_expression x)) (sym is)
    (then (rw c.deref-in-Field.ensures at c.write_operand.ensures) (then c.sign.ensures c.name-in-Field.ensures))

pub write_expression-returns-in-Method : goal.write_expression-returns-in-Method
write_expression-returns-in-Method t c =
    let at = c.args.e.now.at in
    let is : expression_view c.args.e.now ≡ method at (expression_view c.in-Method.object.value) c.in-Method.name (expressions_view c.in-Method.arguments.items) = ap (λ k. kind_view k at) c.in-Method.is ∙ method_is at c.in-Method.object c.in-Method.name c.in-Method.arguments in
    subst (λ x. Writes c.args.pen.now c.write_arguments-in-Method.new.pen (spell_expression x)) (sym is)
    (then (rw c.deref-in-Method.ensures at c.write_operand-in-Method.ensures) (then c.sign-in-Method.ensures (then c.name-in-Method.ensures (rw c.deref-in-Method-2.ensures.value at c.write_arguments-in-Method.ensures))))

pub write_expression-returns-in-Index : goal.write_expression-returns-in-Index
write_expression-returns-in-Index t c =
    let at = c.args.e.now.at in
    let is : expression_view c.args.e.now ≡ index at (expression_view c.in-Index.array.value) (expression_view c.in-Index.index.value) = ap (λ k. kind_view k at) c.in-Index.is in
    subst (λ x. Writes c.args.pen.now c.sign-in-Index-2.new.self (spell_expression x)) (sym is)
    (then (rw c.deref-in-Index.ensures at c.write_operand-in-Index.ensures) (then c.sign-in-Index.ensures (then (rw c.deref-in-Index-2.ensures at c.write_expression.ensures) c.sign-in-Index-2.ensures)))

pub write_expression-returns-in-Unary : goal.write_expression-returns-in-Unary
write_expression-returns-in-Unary t c =
    let at = c.args.e.now.at in
    let is : expression_view c.args.e.now ≡ unary at c.in-Unary.op (expression_view c.in-Unary.operand.value) = ap (λ k. kind_view k at) c.in-Unary.is in
    subst (λ x. Writes c.args.pen.now c.write_operand-in-Unary.new.pen (spell_expression x)) (sym is)
    (then (rw c.sign-in-Unary.ensures at c.sign-in-Unary-2.ensures) (rw (c.deref-in-Unary.ensures, c.level.ensures) at c.write_operand-in-Unary.ensures))

pub write_expression-returns-in-Between : goal.write_expression-returns-in-Between
write_expression-returns-in-Between t c =
    let at = c.args.e.now.at in
    let o = c.in-Binary.op in
    let a = expression_view c.in-Binary.left.value in
    let b = expression_view c.in-Binary.right.value in
    let is : expression_view c.args.e.now ≡ binary at o a b = ap (λ k. kind_view k at) c.in-Binary.is in
    let how : writing o ≡ Between c.in-Between.sign = sym c.writing.ensures ∙ c.in-Between.is in
    subst (λ x. Writes c.args.pen.now c.write_operand-in-Between-2.new.pen (spell_expression x)) (sym is)
    (subst (λ w. Writes c.args.pen.now c.write_operand-in-Between-2.new.pen (spelled_by w (level o) (binds a) (binds b) (spell_expression a) (spell_expression b))) (sym how)
    (then (rw (c.deref-in-Between.ensures, c.level-level.ensures.level) at c.write_operand-in-Between.ensures)
    (then c.sign-in-Between.ensures (rw (c.deref-in-Between-2.ensures, c.level-level.ensures.level) at c.write_operand-in-Between-2.ensures))))

pub write_expression-returns-in-Before : goal.write_expression-returns-in-Before
write_expression-returns-in-Before t c =
    let at = c.args.e.now.at in
    let o = c.in-Binary.op in
    let a = expression_view c.in-Binary.left.value in
    let b = expression_view c.in-Binary.right.value in
    let is : expression_view c.args.e.now ≡ binary at o a b = ap (λ k. kind_view k at) c.in-Binary.is in
    let how : writing o ≡ Before c.in-Before.word = sym c.writing.ensures ∙ c.in-Before.is in
    subst (λ x. Writes c.args.pen.now c.sign-in-Before-3.new.self (spell_expression x)) (sym is)
    (subst (λ w. Writes c.args.pen.now c.sign-in-Before-3.new.self (spelled_by w (level o) (binds a) (binds b) (spell_expression a) (spell_expression b))) (sym how)
    (then c.key-in-Before.ensures (then c.sign-in-Before.ensures (then (rw c.deref-in-Before.ensures at c.write_expression-in-Before.ensures)
    (then c.sign-in-Before-2.ensures (then (rw c.deref-in-Before-2.ensures at c.write_expression-in-Before-2.ensures) c.sign-in-Before-3.ensures))))))
