-- Calls in memory, as the plain tree has them.
use Rattle.std.proofs.Common.{◌≡◌, List, map, length, sym, ◌∙◌, ap, subst, Result, Global}
use Rattle.std.specs.declared.vec.Vec.{Vec}
use Rattle.std.specs.declared.boxed.Box.{Box}
use Rattle.ca_tree.specs.declared.name.Place.{Place}
use Rattle.ca_tree.specs.declared.name.Name.{Name}
use Rattle.ca_tree.specs.declared.tree.ExprNode.{ExprNode}
use Rattle.ca_tree.specs.declared.tree.ExprKind.{ExprKind, Call, Method}
use Rattle.ca_tree.specs.View.{kind_view, expression_view as node_view, expressions_view as nodes_view}
use Rattle.ca_tree.proofs.Rows.{call_is}
use Rattle.ca_program.specs.declared.program.Expr.{Expr}
use Rattle.ca_resolve.specs.declared.errors.CheckError.{CheckError}
use Rattle.ca_resolve.specs.declared.types.Ty.{Ty as CodeTy}
use Rattle.ca_resolve.specs.declared.found.Found.{Found as CodeFound}
use Rattle.ca_resolve.specs.declared.found.Invocation.{Invocation as CodeInvocation}
use Rattle.ca_resolve.specs.Judged.{Judged, each, Answers}
use Rattle.ca_resolve.specs.Scopes.{Ty, Callee, Scope}
use Rattle.ca_resolve.specs.Values.{judge_found, judge_value, judge_arguments, judge_own_call, judge_method_call, judge_call, call_value, parameters_of, count_of}
use Rattle.ca_resolve.specs.LocalView.{ty_view}
use Rattle.ca_resolve.specs.View.{found_view, values_view, invocation_view}
use Rattle.ca_resolve.proofs.InMemory.{method_is, count_is}

pub arguments_known : (s : Scope) (params : List CodeTy) (args : List ExprNode) (k : Judged (Callee × List Ty)) (r : Result (Vec Expr Global) CheckError)
    → map ty_view params ≡ parameters_of k (length args) → Answers values_view r (each (judge_arguments s (map ty_view params) (nodes_view args)))
    → Answers values_view r (each (judge_arguments s (parameters_of k (count_of (nodes_view args))) (nodes_view args)))
arguments_known s params args k r p h =
    subst (λ ts. Answers values_view r (each (judge_arguments s ts (nodes_view args)))) (p ∙ ap (parameters_of k) (sym (count_is args))) h

pub own_call_found : (s : Scope) (k : ExprKind) (at : Place) (name : Name) (v : Vec ExprNode Global) (es : List ExprNode) (r : Result CodeFound CheckError) → k ≡ Call name v → es ≡ v.items
    → Answers found_view r (call_value at (judge_own_call s name (nodes_view es) at)) → Answers found_view r (judge_found s (kind_view k at))
own_call_found s k at name v es r is same h =
    subst (λ x. Answers found_view r (judge_found s (kind_view x at))) (sym is)
    (subst (λ e. Answers found_view r (judge_found s e)) (sym (call_is at name v)) (subst (λ xs. Answers found_view r (call_value at (judge_own_call s name (nodes_view xs) at))) same h))

pub method_call_found : (s : Scope) (k : ExprKind) (at : Place) (p : Box ExprNode Global) (name : Name) (v : Vec ExprNode Global) (x : ExprNode) (es : List ExprNode) (r : Result CodeFound CheckError)
    → k ≡ Method p name v → x ≡ p.value → es ≡ v.items
    → Answers found_view r (call_value at (judge_method_call s (judge_value s (node_view x)) name (nodes_view es) at)) → Answers found_view r (judge_found s (kind_view k at))
method_call_found s k at p name v x es r is object same h =
    let one : Answers found_view r (call_value at (judge_method_call s (judge_value s (node_view p.value)) name (nodes_view es) at)) =
    subst (λ z. Answers found_view r (call_value at (judge_method_call s (judge_value s (node_view z)) name (nodes_view es) at))) object h in
    subst (λ z. Answers found_view r (judge_found s (kind_view z at))) (sym is)
    (subst (λ e. Answers found_view r (judge_found s e)) (sym (method_is at p name v)) (subst (λ xs. Answers found_view r (call_value at (judge_method_call s (judge_value s (node_view p.value)) name (nodes_view xs) at))) same one))

pub own_call : (s : Scope) (k : ExprKind) (at : Place) (name : Name) (v : Vec ExprNode Global) (es : List ExprNode) (r : Result CodeInvocation CheckError) → k ≡ Call name v → es ≡ v.items
    → Answers invocation_view r (judge_own_call s name (nodes_view es) at) → Answers invocation_view r (judge_call s (kind_view k at))
own_call s k at name v es r is same h =
    subst (λ x. Answers invocation_view r (judge_call s (kind_view x at))) (sym is)
    (subst (λ e. Answers invocation_view r (judge_call s e)) (sym (call_is at name v)) (subst (λ xs. Answers invocation_view r (judge_own_call s name (nodes_view xs) at)) same h))

pub method_call : (s : Scope) (k : ExprKind) (at : Place) (p : Box ExprNode Global) (name : Name) (v : Vec ExprNode Global) (x : ExprNode) (es : List ExprNode) (r : Result CodeInvocation CheckError)
    → k ≡ Method p name v → x ≡ p.value → es ≡ v.items
    → Answers invocation_view r (judge_method_call s (judge_value s (node_view x)) name (nodes_view es) at) → Answers invocation_view r (judge_call s (kind_view k at))
method_call s k at p name v x es r is object same h =
    let one : Answers invocation_view r (judge_method_call s (judge_value s (node_view p.value)) name (nodes_view es) at) =
    subst (λ z. Answers invocation_view r (judge_method_call s (judge_value s (node_view z)) name (nodes_view es) at)) object h in
    subst (λ z. Answers invocation_view r (judge_call s (kind_view z at))) (sym is)
    (subst (λ e. Answers invocation_view r (judge_call s e)) (sym (method_is at p name v)) (subst (λ xs. Answers invocation_view r (judge_method_call s (judge_value s (node_view p.value)) name (nodes_view xs) at)) same one))
