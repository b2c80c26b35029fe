use Rattle.std.proofs.Common.{◌≡◌, ◌+◌, ◌&&◌, true, List, drop, sym, ap, ap₂, ◌∙◌, arith}
use Rattle.std.proofs.lemmas.List.{drop_all}
use Rattle.ca_lists.proofs.Places.{item_and_rest}
use Rattle.ca_tree.specs.declared.tree.ExprNode.{ExprNode}
use Rattle.ca_tree.specs.Plain.{call, method, field, index, unary, binary, expression_and}
use Rattle.ca_tree.specs.View.{kind_view, expression_view, expressions_view}
use Rattle.ca_tree.proofs.Rows.{call_is}
use Rattle.ca_canonical.proofs.Rows.{method_is}
use Rattle.ca_emit.specs.Receivers.{same_expression, same_expressions}
use Rattle.ca_emit.proofs.Equal.{unequal, equal_so_far, not_equal}
use Rattle.ca_emit.proofs.receivers.+same.Goals as goal

pub same_expression-returns-in-Call-Call : goal.same_expression-returns-in-Call-Call
same_expression-returns-in-Call-Call t c =
    let v = c.in-Call-Call in
    let one : expression_view c.args.a.now ≡ call c.args.a.now.at v.m (expressions_view v.xs.items) = ap (λ k. kind_view k c.args.a.now.at) v.is-0 ∙ call_is c.args.a.now.at v.m v.xs in
    let two : expression_view c.args.b.now ≡ call c.args.b.now.at v.n (expressions_view v.ys.items) = ap (λ k. kind_view k c.args.b.now.at) v.is-1 ∙ call_is c.args.b.now.at v.n v.ys in
    let lists : c.same_expressions.result ≡ same_expressions (expressions_view v.xs.items) (expressions_view v.ys.items) = rw (c.deref.ensures.value, c.deref-in-Call-Call.ensures.value) at c.same_expressions.ensures in
    ap₂ (λ x y. x && y) c.same_name-in-Call-Call.ensures lists ∙ sym (ap₂ same_expression one two)

pub same_expression-returns-in-Method-Method : goal.same_expression-returns-in-Method-Method
same_expression-returns-in-Method-Method t c =
    let v = c.in-Method-Method in
    let one : expression_view c.args.a.now ≡ method c.args.a.now.at (expression_view v.d.value) v.m (expressions_view v.xs.items) =
    ap (λ k. kind_view k c.args.a.now.at) v.is-0 ∙ method_is c.args.a.now.at v.d v.m v.xs in
    let two : expression_view c.args.b.now ≡ method c.args.b.now.at (expression_view v.e.value) v.n (expressions_view v.ys.items) =
    ap (λ k. kind_view k c.args.b.now.at) v.is-1 ∙ method_is c.args.b.now.at v.e v.n v.ys in
    let inner : c.same_expression-in-Method-Method.result ≡ same_expression (expression_view v.d.value) (expression_view v.e.value) =
    rw (c.deref-in-Method-Method.ensures, c.deref-in-Method-Method-2.ensures) at c.same_expression-in-Method-Method.ensures in
    let lists : c.same_expressions-in-Method-Method.result ≡ same_expressions (expressions_view v.xs.items) (expressions_view v.ys.items) =
    rw (c.deref-in-Method-Method-3.ensures.value, c.deref-in-Method-Method-4.ensures.value) at c.same_expressions-in-Method-Method.ensures in
    ap₂ (λ x y. x && y) c.same_name-in-Method-Method.ensures (ap₂ (λ x y. x && y) inner lists) ∙ sym (ap₂ same_expression one two)

pub same_expression-returns-in-Field-Field : goal.same_expression-returns-in-Field-Field
same_expression-returns-in-Field-Field t c =
    let v = c.in-Field-Field in
    let one : expression_view c.args.a.now ≡ field c.args.a.now.at (expression_view v.d.value) v.m = ap (λ k. kind_view k c.args.a.now.at) v.is-0 in
    let two : expression_view c.args.b.now ≡ field c.args.b.now.at (expression_view v.e.value) v.n = ap (λ k. kind_view k c.args.b.now.at) v.is-1 in
    let inner : c.same_expression.result ≡ same_expression (expression_view v.d.value) (expression_view v.e.value) = rw (c.deref-in-Field-Field.ensures, c.deref-in-Field-Field-2.ensures) at c.same_expression.ensures in
    ap₂ (λ x y. x && y) c.same_name-in-Field-Field.ensures inner ∙ sym (ap₂ same_expression one two)

pub same_expression-returns-in-Index-Index : goal.same_expression-returns-in-Index-Index
same_expression-returns-in-Index-Index t c =
    let v = c.in-Index-Index in
    let one : expression_view c.args.a.now ≡ index c.args.a.now.at (expression_view v.d.value) (expression_view v.i.value) = ap (λ k. kind_view k c.args.a.now.at) v.is-0 in
    let two : expression_view c.args.b.now ≡ index c.args.b.now.at (expression_view v.e.value) (expression_view v.j.value) = ap (λ k. kind_view k c.args.b.now.at) v.is-1 in
    let first : c.same_expression-in-Index-Index.result ≡ same_expression (expression_view v.d.value) (expression_view v.e.value) =
    rw (c.deref-in-Index-Index.ensures, c.deref-in-Index-Index-2.ensures) at c.same_expression-in-Index-Index.ensures in
    let second : c.same_expression-in-Index-Index-2.result ≡ same_expression (expression_view v.i.value) (expression_view v.j.value) =
    rw (c.deref-in-Index-Index-3.ensures, c.deref-in-Index-Index-4.ensures) at c.same_expression-in-Index-Index-2.ensures in
    ap₂ (λ x y. x && y) first second ∙ sym (ap₂ same_expression one two)

pub same_expression-returns-in-Unary-Unary : goal.same_expression-returns-in-Unary-Unary
same_expression-returns-in-Unary-Unary t c =
    let v = c.in-Unary-Unary in
    let one : expression_view c.args.a.now ≡ unary c.args.a.now.at v.o (expression_view v.d.value) = ap (λ k. kind_view k c.args.a.now.at) v.is-0 in
    let two : expression_view c.args.b.now ≡ unary c.args.b.now.at v.s (expression_view v.e.value) = ap (λ k. kind_view k c.args.b.now.at) v.is-1 in
    let inner : c.same_expression-in-Unary-Unary.result ≡ same_expression (expression_view v.d.value) (expression_view v.e.value) =
    rw (c.deref-in-Unary-Unary.ensures, c.deref-in-Unary-Unary-2.ensures) at c.same_expression-in-Unary-Unary.ensures in
    ap₂ (λ x y. x && y) c.same_unary.ensures inner ∙ sym (ap₂ same_expression one two)

pub same_expression-returns-in-Binary-Binary : goal.same_expression-returns-in-Binary-Binary
same_expression-returns-in-Binary-Binary t c =
    let v = c.in-Binary-Binary in
    let one : expression_view c.args.a.now ≡ binary c.args.a.now.at v.o (expression_view v.c.value) (expression_view v.d.value) = ap (λ k. kind_view k c.args.a.now.at) v.is-0 in
    let two : expression_view c.args.b.now ≡ binary c.args.b.now.at v.s (expression_view v.e.value) (expression_view v.f.value) = ap (λ k. kind_view k c.args.b.now.at) v.is-1 in
    let first : c.same_expression-in-Binary-Binary.result ≡ same_expression (expression_view v.c.value) (expression_view v.e.value) =
    rw (c.deref-in-Binary-Binary.ensures, c.deref-in-Binary-Binary-2.ensures) at c.same_expression-in-Binary-Binary.ensures in
    let second : c.same_expression-in-Binary-Binary-2.result ≡ same_expression (expression_view v.d.value) (expression_view v.f.value) =
    rw (c.deref-in-Binary-Binary-3.ensures, c.deref-in-Binary-Binary-4.ensures) at c.same_expression-in-Binary-Binary-2.ensures in
    ap₂ (λ x y. x && y) c.same_binary.ensures (ap₂ (λ x y. x && y) first second) ∙ sym (ap₂ same_expression one two)

pub same_expressions-returns-then-xs-ys : goal.same_expressions-returns-then-xs-ys
same_expressions-returns-then-xs-ys t c = unequal c.args.xs.now c.args.ys.now (λ e. absurd (omega (arith, e, c.if-xs-ys.true)))

pub same_expressions-loop-place-preserved : goal.same_expressions-loop-place-preserved
same_expressions-loop-place-preserved t c =
    let i = c.loop-place.place in
    let xs = c.args.xs.now in
    let ys = c.args.ys.now in
    let x = c.index-xs-place.result in
    let y = c.index-ys-place.result in
    let more = expressions_view (drop (i + 1) xs) in
    let rest = expressions_view (drop (i + 1) ys) in
    let first : expressions_view (drop i xs) ≡ expression_and (expression_view x) more = ap expressions_view (item_and_rest xs i x c.loop-place-test.true c.index-xs-place.is) in
    let second : expressions_view (drop i ys) ≡ expression_and (expression_view y) rest =
    ap expressions_view (item_and_rest ys i y (omega (arith, c.loop-place-test.true, c.if-xs-ys.false)) c.index-ys-place.is) in
    equal_so_far (expression_view x) (expression_view y) more rest (expressions_view (drop i xs)) (expressions_view (drop i ys)) _ first second c.loop-place.invariant (sym c.same_expression.ensures ∙ c.if-not-same_expression.false)

pub same_expressions-returns-then-not-same_expression : goal.same_expressions-returns-then-not-same_expression
same_expressions-returns-then-not-same_expression t c =
    let i = c.loop-place.place in
    let xs = c.args.xs.now in
    let ys = c.args.ys.now in
    let x = c.index-xs-place.result in
    let y = c.index-ys-place.result in
    let more = expressions_view (drop (i + 1) xs) in
    let rest = expressions_view (drop (i + 1) ys) in
    let first : expressions_view (drop i xs) ≡ expression_and (expression_view x) more = ap expressions_view (item_and_rest xs i x c.loop-place-test.true c.index-xs-place.is) in
    let second : expressions_view (drop i ys) ≡ expression_and (expression_view y) rest =
    ap expressions_view (item_and_rest ys i y (omega (arith, c.loop-place-test.true, c.if-xs-ys.false)) c.index-ys-place.is) in
    not_equal (expression_view x) (expression_view y) more rest (expressions_view (drop i xs)) (expressions_view (drop i ys)) _ first second c.loop-place.invariant (sym c.same_expression.ensures ∙ c.if-not-same_expression.true)

pub same_expressions-returns : goal.same_expressions-returns
same_expressions-returns t c =
    let i = c.loop-place.place in
    sym (ap₂ (λ (xs ys : List ExprNode). same_expressions (expressions_view xs) (expressions_view ys))
    (drop_all i c.args.xs.now (omega (arith, c.loop-place-test.false))) (drop_all i c.args.ys.now (omega (arith, c.loop-place-test.false, c.if-xs-ys.false)))) ∙ c.loop-place.invariant
