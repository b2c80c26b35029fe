use Rattle.std.proofs.Common.{ap, arith, refl}
use Rattle.ca_tree.specs.declared.tree.ExprKind.{This, Named}
use Rattle.ca_tree.specs.View.{kind_view, expression_view as node_view, expressions_view as nodes_view}
use Rattle.ca_program.specs.Plain.{this}
use Rattle.ca_resolve.specs.Judged.{fine}
use Rattle.ca_resolve.specs.Scopes.{long}
use Rattle.ca_resolve.specs.Values.{judge_found, judge_value, judge_for, judge_own_call, judge_method_call, judge_arguments, own_method, method_through, object_of, parameters_of, count_of}
use Rattle.ca_resolve.specs.View.{scope_view}
use Rattle.ca_resolve.proofs.Arguments.{walk_start, walk_step, walk_end}
use Rattle.ca_resolve.proofs.CallNodes.{own_call_found, method_call_found, arguments_known}
use Rattle.ca_resolve.proofs.Shapes.{found_as, field_found, item_found, unary_found, binary_found}
use Rattle.ca_resolve.proofs.values.+check.Goals as goal

pub check_arguments-loop-i-init : goal.check_arguments-loop-i-init
check_arguments-loop-i-init t c = walk_start (scope_view c.args.scope.now) c.args.params.now c.args.args.now c.new.result c.new.ensures.items

pub check_arguments-loop-i-preserved : goal.check_arguments-loop-i-preserved
check_arguments-loop-i-preserved t c =
    let s = scope_view c.args.scope.now in
    let x = node_view c.index-args-i.result in
    walk_step s c.args.params.now c.args.args.now c.loop-i.i c.index-args-i.result c.type_at-target.result c.loop-i.values c.value_for.result c.and_one-values.result
    c.loop-i-test.true c.index-args-i.is c.type_at-target.ensures
    (c.value_for.ensures (judge_value s x) (c.whole_value-value.ensures (judge_found s x) c.check_found.ensures)) c.and_one-values.ensures c.loop-i.invariant

pub check_arguments-returns : goal.check_arguments-returns
check_arguments-returns t c = let h = c.loop-i-test.false in walk_end (scope_view c.args.scope.now) c.args.params.now c.args.args.now c.loop-i.i c.loop-i.values (omega arith) c.loop-i.invariant

pub check_found-returns-in-Call : goal.check_found-returns-in-Call
check_found-returns-in-Call t c =
    let s = scope_view c.args.scope.now in
    own_call_found s c.args.e.now.kind c.args.e.now.at c.in-Call.name c.in-Call.args c.deref.result.now c.call_value.result c.in-Call.is c.deref.ensures.value
    (c.call_value.ensures (judge_own_call s c.in-Call.name (nodes_view c.deref.result.now) c.args.e.now.at) c.check_own_call.ensures)

pub check_found-returns-in-Method : goal.check_found-returns-in-Method
check_found-returns-in-Method t c =
    let s = scope_view c.args.scope.now in
    let x = c.deref-object-in-Method.result.now in
    let j = judge_value s (node_view x) in
    method_call_found s c.args.e.now.kind c.args.e.now.at c.in-Method.object c.in-Method.name c.in-Method.args x c.deref-in-Method.result.now c.call_value-in-Method.result
    c.in-Method.is c.deref-object-in-Method.ensures c.deref-in-Method.ensures.value
    (c.call_value-in-Method.ensures (judge_method_call s j c.in-Method.name (nodes_view c.deref-in-Method.result.now) c.args.e.now.at)
    (c.check_method_call.ensures j (c.whole_value-value-in-Method.ensures (judge_found s (node_view x)) c.check_found-in-Method.ensures)))

pub check_found-returns-in-Truth : goal.check_found-returns-in-Truth
check_found-returns-in-Truth t c = ap (λ k. judge_found (scope_view c.args.scope.now) (kind_view k c.args.e.now.at)) c.in-Truth.is

pub check_found-returns-in-Null : goal.check_found-returns-in-Null
check_found-returns-in-Null t c = ap (λ k. judge_found (scope_view c.args.scope.now) (kind_view k c.args.e.now.at)) c.in-Null.is

pub check_found-returns-in-This : goal.check_found-returns-in-This
check_found-returns-in-This t c = found_as (scope_view c.args.scope.now) c.args.e.now.kind This c.args.e.now.at c.this.result c.in-This.is c.this.ensures

pub check_found-returns-in-Named : goal.check_found-returns-in-Named
check_found-returns-in-Named t c = found_as (scope_view c.args.scope.now) c.args.e.now.kind (Named c.in-Named.name) c.args.e.now.at c.named.result c.in-Named.is c.named.ensures

pub check_found-returns-in-Field : goal.check_found-returns-in-Field
check_found-returns-in-Field t c =
    let s = scope_view c.args.scope.now in
    let x = c.deref-object.result.now in
    field_found s c.args.e.now.kind c.args.e.now.at c.in-Field.object c.in-Field.name x c.field.result c.in-Field.is c.deref-object.ensures
    (c.field.ensures (judge_value s (node_view x)) (c.whole_value-value.ensures (judge_found s (node_view x)) c.check_found.ensures))

pub check_found-returns-in-Index : goal.check_found-returns-in-Index
check_found-returns-in-Index t c =
    let s = scope_view c.args.scope.now in
    let x = c.deref-in-Index.result.now in
    let y = c.deref-index.result.now in
    item_found s c.args.e.now.kind c.args.e.now.at c.in-Index.array c.in-Index.index x y c.item.result c.in-Index.is c.deref-in-Index.ensures c.deref-index.ensures
    (c.item.ensures (judge_found s (node_view x)) (judge_for s long (node_view y)) c.check_found-array.ensures
    (c.value_for.ensures (judge_value s (node_view y)) (c.whole_value-number.ensures (judge_found s (node_view y)) c.check_found-in-Index.ensures)))

pub check_found-returns-in-Unary : goal.check_found-returns-in-Unary
check_found-returns-in-Unary t c =
    let s = scope_view c.args.scope.now in
    let x = c.deref-operand.result.now in
    unary_found s c.args.e.now.kind c.args.e.now.at c.in-Unary.op c.in-Unary.operand x c.unary.result c.in-Unary.is c.deref-operand.ensures
    (c.unary.ensures (judge_value s (node_view x)) (c.whole_value-value-in-Unary.ensures (judge_found s (node_view x)) c.check_found-in-Unary.ensures))

pub check_found-returns-in-Binary : goal.check_found-returns-in-Binary
check_found-returns-in-Binary t c =
    let s = scope_view c.args.scope.now in
    let x = c.deref-left.result.now in
    let y = c.deref-right.result.now in
    binary_found s c.args.e.now.kind c.args.e.now.at c.in-Binary.op c.in-Binary.left c.in-Binary.right x y c.binary.result c.in-Binary.is c.deref-left.ensures c.deref-right.ensures
    (c.binary.ensures (judge_value s (node_view x)) (judge_value s (node_view y)) (c.whole_value-first.ensures (judge_found s (node_view x)) c.check_found-in-Binary.ensures)
    (c.whole_value-second.ensures (judge_found s (node_view y)) c.check_found-in-Binary-2.ensures))

pub check_own_call-returns : goal.check_own_call-returns
check_own_call-returns t c =
    let s = scope_view c.args.scope.now in
    let k = own_method s c.args.name.now c.args.at in
    c.invocation.ensures (fine this) k (judge_arguments s (parameters_of k (count_of (nodes_view c.args.args.now))) (nodes_view c.args.args.now)) refl c.own_method-callee.ensures
    (arguments_known s c.in_ok-params.params.now c.args.args.now k c.check_arguments-arguments.result (c.in_ok-params.ensures.known k c.own_method-callee.ensures) c.check_arguments-arguments.ensures)

pub check_method_call-returns : goal.check_method_call-returns
check_method_call-returns t c =
    let s = scope_view c.args.scope.now in
    λ j h.
    let k = method_through s j c.args.name.now c.args.at in
    let m = c.method_through-callee.ensures j h in
    c.invocation.ensures (object_of j) k (judge_arguments s (parameters_of k (count_of (nodes_view c.args.args.now))) (nodes_view c.args.args.now)) (c.object_of.ensures j h) m
    (arguments_known s c.in_ok-params.params.now c.args.args.now k c.check_arguments-arguments.result (c.in_ok-params.ensures.known k m) c.check_arguments-arguments.ensures)
