-- The walk over the arguments of a call.
use Rattle.std.proofs.Common.{◌≡◌, ℕ, zero, suc, ◌+◌, ◌<◌, ◌≤◌, List, [], ◌∷◌, ◌++◌, Option, map, length, drop, get_or, slice_get, refl, sym, ◌∙◌, ap, subst, arith, Result, Ok, Global}
use Rattle.std.proofs.Math.Seq.{drop-cons}
use Rattle.std.proofs.lemmas.List.{append_assoc, append-nil, drop_all}
use Rattle.std.specs.declared.vec.Vec.{Vec}
use Rattle.ca_tree.specs.declared.name.Place.{Place}
use Rattle.ca_tree.specs.declared.tree.ExprNode.{ExprNode}
use Rattle.ca_tree.specs.View.{expression_view as node_view, expressions_view as nodes_view}
use Rattle.ca_program.specs.declared.program.Expr.{Expr}
use Rattle.ca_program.specs.Plain as program
use Rattle.ca_program.specs.View.{expression_view}
use Rattle.ca_resolve.specs.declared.errors.CheckError.{CheckError}
use Rattle.ca_resolve.specs.declared.types.Ty.{Ty as CodeTy}
use Rattle.ca_resolve.specs.Judged.{Judged, fine, each, Answers, Extends}
use Rattle.ca_resolve.specs.Scopes.{Ty, Scope}
use Rattle.ca_resolve.specs.Values.{judge_value, judge_arguments, value_for, rest_of, place_of}
use Rattle.ca_resolve.specs.LocalView.{ty_view}
use Rattle.ca_resolve.specs.View.{values_view, wanted_view}
use Rattle.ca_resolve.proofs.Judging.{extends_answers}

-- the walk has come to i, with these values
abbrev pub Walked : Scope → List CodeTy → List ExprNode → ℕ → Result (Vec Expr Global) CheckError → Type 0
Walked s params args i values =
    (front : List (Judged program.Expression)) × Answers values_view values (each front)
    × (judge_arguments s (map ty_view params) (nodes_view args) ≡ front ++ judge_arguments s (drop i (map ty_view params)) (nodes_view (drop i args)))

wanted_at : (params : List CodeTy) (i : ℕ) (j : Judged (program.Expression × Ty)) (at : Place) → value_for (wanted_view (slice_get params i)) j at ≡ value_for (drop i (map ty_view params)) j at
wanted_at [] zero j at = refl
wanted_at [] (suc i) j at = refl
wanted_at (p ∷ ps) zero j at = refl
wanted_at (p ∷ ps) (suc i) j at = wanted_at ps i j at

rest_at : (ts : List Ty) (i : ℕ) → rest_of (drop i ts) ≡ drop (suc i) ts
rest_at [] zero = refl
rest_at [] (suc i) = refl
rest_at (t ∷ ts) zero = refl
rest_at (t ∷ ts) (suc i) = rest_at ts i

pub walk_start : (s : Scope) (params : List CodeTy) (args : List ExprNode) (v : Vec Expr Global) → v.items ≡ [] → Walked s params args 0 (Ok v)
walk_start s params args v e = ([], ap (λ xs. fine (map expression_view xs)) (sym e), refl)

pub walk_step : (s : Scope) (params : List CodeTy) (args : List ExprNode) (i : ℕ) (x : ExprNode) (target : Option CodeTy) (values : Result (Vec Expr Global) CheckError) (next : Result Expr CheckError) (more : Result (Vec Expr Global) CheckError)
    → i < length args → x ≡ get_or args i x → target ≡ slice_get params i → Answers expression_view next (value_for (wanted_view target) (judge_value s (node_view x)) (place_of (node_view x))) → Extends values next more
    → Walked s params args i values → Walked s params args (i + 1) more
walk_step s params args i x target values next more h is t a g (front, so_far, whole) =
    let j = value_for (drop i (map ty_view params)) (judge_value s (node_view x)) (place_of (node_view x)) in
    let one : Answers expression_view next j = subst (λ k. Answers expression_view next k) (ap (λ o. value_for (wanted_view o) (judge_value s (node_view x)) (place_of (node_view x))) t ∙ wanted_at params i (judge_value s (node_view x)) (place_of (node_view x))) a in
    let rest : drop i args ≡ x ∷ drop (suc i) args = drop-cons args i x h ∙ ap (λ y. y ∷ drop (suc i) args) (sym is) in
    let n : suc i ≡ i + 1 = omega arith in
    let behind : judge_arguments s (drop i (map ty_view params)) (nodes_view (drop i args)) ≡ j ∷ judge_arguments s (drop (i + 1) (map ty_view params)) (nodes_view (drop (i + 1) args)) =
    ap (λ es. judge_arguments s (drop i (map ty_view params)) (nodes_view es)) rest
    ∙ (ap (λ ts. j ∷ judge_arguments s ts (nodes_view (drop (suc i) args))) (rest_at (map ty_view params) i)
    ∙ ap (λ m. j ∷ judge_arguments s (drop m (map ty_view params)) (nodes_view (drop m args))) n) in (
      front ++ j ∷ [],
      extends_answers expression_view values next more front j g so_far one,
      whole ∙ (ap (λ js. front ++ js) behind ∙ sym (append_assoc front (j ∷ []) (judge_arguments s (drop (i + 1) (map ty_view params)) (nodes_view (drop (i + 1) args))))),
    )

pub walk_end : (s : Scope) (params : List CodeTy) (args : List ExprNode) (i : ℕ) (values : Result (Vec Expr Global) CheckError) → length args ≤ i → Walked s params args i values
    → Answers values_view values (each (judge_arguments s (map ty_view params) (nodes_view args)))
walk_end s params args i values h (front, so_far, whole) =
    let all : judge_arguments s (map ty_view params) (nodes_view args) ≡ front =
    whole ∙ (ap (λ es. front ++ judge_arguments s (drop i (map ty_view params)) (nodes_view es)) (drop_all i args h) ∙ append-nil front) in
    subst (λ js. Answers values_view values (each js)) (sym all) so_far
