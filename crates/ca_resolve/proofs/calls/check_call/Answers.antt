use Rattle.ca_tree.specs.View.{expression_view as node_view}
use Rattle.ca_resolve.specs.Values.{judge_found, judge_value}
use Rattle.ca_resolve.specs.View.{scope_view}
use Rattle.ca_resolve.proofs.CallNodes.{own_call, method_call}
use Rattle.ca_resolve.proofs.calls.check_call.Goals as goal

pub returns-in-Call : goal.returns-in-Call
returns-in-Call c =
    own_call (scope_view c.args.scope.now) c.args.e.now.kind c.args.e.now.at c.in-Call.name c.in-Call.args c.deref.result.now c.check_own_call.result c.in-Call.is c.deref.ensures.value c.check_own_call.ensures

pub returns-in-Method : goal.returns-in-Method
returns-in-Method c =
    let s = scope_view c.args.scope.now in
    let x = c.deref-object.result.now in
    let j = judge_value s (node_view x) in
    method_call s c.args.e.now.kind c.args.e.now.at c.in-Method.object c.in-Method.name c.in-Method.args x c.deref-in-Method.result.now c.check_method_call.result
    c.in-Method.is c.deref-object.ensures c.deref-in-Method.ensures.value
    (c.check_method_call.ensures j (c.whole_value-value.ensures (judge_found s (node_view x)) c.check_found.ensures))
