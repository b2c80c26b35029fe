use Rattle.std.proofs.Common.{◌≡◌, ◌+◌, ◌&&◌, true, List, drop, sym, ap, ap₂, ◌∙◌, arith}
use Rattle.std.proofs.lemmas.List.{drop_all}
use Rattle.std.specs.Prelude.{nat_eq}
use Rattle.ca_lists.proofs.Places.{item_and_rest}
use Rattle.ca_program.specs.declared.program.Expr.{Expr}
use Rattle.ca_program.specs.Plain.{expression_and}
use Rattle.ca_program.specs.View.{expression_view, expressions_view}
use Rattle.ca_symbolic.specs.Same.{same_expression, same_expressions}
use Rattle.ca_symbolic.proofs.Blocks.{call_view, unequal, alike_so_far, not_alike}
use Rattle.ca_symbolic.proofs.same.+same.Goals as goal

pub same_expression-returns-in-Value-Value : goal.same_expression-returns-in-Value-Value
same_expression-returns-in-Value-Value t c =
    let v = c.in-Value-Value in
    let first : c.same_expression-in-Value-Value.result ≡ same_expression (expression_view v.d.value) (expression_view v.e.value) =
    rw (c.deref-in-Value-Value.ensures, c.deref-in-Value-Value-2.ensures) at c.same_expression-in-Value-Value.ensures in
    let second : c.same_expressions.result ≡ same_expressions (expressions_view v.xs.items) (expressions_view v.ys.items) =
    rw (c.deref-in-Value-Value-3.ensures.value, c.deref-in-Value-Value-4.ensures.value) at c.same_expressions.ensures in
    rw (call_view c.args.a.now v.d v.m v.xs v.is-0, call_view c.args.b.now v.e v.n v.ys v.is-1) (ap₂ (λ x y. nat_eq v.m.0 v.n.0 && (x && y)) first second)

pub same_expressions-returns-then-xs-ys : goal.same_expressions-returns-then-xs-ys
same_expressions-returns-then-xs-ys t c = unequal c.args.xs.now c.args.ys.now (λ e. absurd (omega (arith, e, c.if-xs-ys.true)))

pub same_expressions-loop-place-preserved : goal.same_expressions-loop-place-preserved
same_expressions-loop-place-preserved t c =
    let i = c.loop-place.place in
    let xs = c.args.xs.now in
    let ys = c.args.ys.now in
    let x = c.index-xs-place.result in
    let y = c.index-ys-place.result in
    let more = expressions_view (drop (i + 1) xs) in
    let rest = expressions_view (drop (i + 1) ys) in
    let first : expressions_view (drop i xs) ≡ expression_and (expression_view x) more = ap expressions_view (item_and_rest xs i x c.loop-place-test.true c.index-xs-place.is) in
    let second : expressions_view (drop i ys) ≡ expression_and (expression_view y) rest =
    ap expressions_view (item_and_rest ys i y (omega (arith, c.loop-place-test.true, c.if-xs-ys.false)) c.index-ys-place.is) in
    alike_so_far (expression_view x) (expression_view y) more rest (expressions_view (drop i xs)) (expressions_view (drop i ys)) _ first second c.loop-place.invariant (sym c.same_expression.ensures ∙ c.if-not-same_expression.false)

pub same_expressions-returns-then-not-same_expression : goal.same_expressions-returns-then-not-same_expression
same_expressions-returns-then-not-same_expression t c =
    let i = c.loop-place.place in
    let xs = c.args.xs.now in
    let ys = c.args.ys.now in
    let x = c.index-xs-place.result in
    let y = c.index-ys-place.result in
    let more = expressions_view (drop (i + 1) xs) in
    let rest = expressions_view (drop (i + 1) ys) in
    let first : expressions_view (drop i xs) ≡ expression_and (expression_view x) more = ap expressions_view (item_and_rest xs i x c.loop-place-test.true c.index-xs-place.is) in
    let second : expressions_view (drop i ys) ≡ expression_and (expression_view y) rest =
    ap expressions_view (item_and_rest ys i y (omega (arith, c.loop-place-test.true, c.if-xs-ys.false)) c.index-ys-place.is) in
    not_alike (expression_view x) (expression_view y) more rest (expressions_view (drop i xs)) (expressions_view (drop i ys)) _ first second c.loop-place.invariant (sym c.same_expression.ensures ∙ c.if-not-same_expression.true)

pub same_expressions-returns : goal.same_expressions-returns
same_expressions-returns t c =
    let i = c.loop-place.place in
    sym (ap₂ (λ (xs ys : List Expr). same_expressions (expressions_view xs) (expressions_view ys))
    (drop_all i c.args.xs.now (omega (arith, c.loop-place-test.false))) (drop_all i c.args.ys.now (omega (arith, c.loop-place-test.false, c.if-xs-ys.false)))) ∙ c.loop-place.invariant
