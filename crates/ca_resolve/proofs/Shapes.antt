-- What an expression in memory is judged to be, by its kind.
use Rattle.std.proofs.Common.{◌≡◌, List, [], ◌∷◌, refl, sym, ◌∙◌, ap, subst, Result, Global}
use Rattle.std.specs.declared.boxed.Box.{Box}
use Rattle.ca_tree.specs.declared.name.Place.{Place}
use Rattle.ca_tree.specs.declared.name.Name.{Name}
use Rattle.ca_tree.specs.declared.tree.UnaryOp.{UnaryOp}
use Rattle.ca_tree.specs.declared.tree.BinaryOp.{BinaryOp}
use Rattle.ca_tree.specs.declared.tree.ExprNode.{ExprNode}
use Rattle.ca_tree.specs.declared.tree.ExprKind.{ExprKind, Field, Index, Unary, Binary, Index'}
use Rattle.ca_tree.specs.View.{kind_view, expression_view as node_view}
use Rattle.ca_resolve.specs.declared.errors.CheckError.{CheckError}
use Rattle.ca_resolve.specs.declared.found.Found.{Found as CodeFound}
use Rattle.ca_resolve.specs.declared.found.Target.{Target as CodeTarget}
use Rattle.ca_resolve.specs.declared.types.Ty.{Ty as CodeTy}
use Rattle.ca_resolve.specs.Judged.{Judged, Answers, within}
use Rattle.ca_resolve.specs.Scopes.{Scope, Target, Ty, long}
use Rattle.ca_resolve.specs.Rules.{is_target}
use Rattle.ca_resolve.specs.Values.{judge_found, judge_value, judge_for, judge_field, judge_item, judge_unary, judge_binary, judge_item_target, judge_target, value_for, place_of}
use Rattle.ca_resolve.specs.View.{found_view, target_view}

pub found_as : (s : Scope) (k l : ExprKind) (at : Place) (r : Result CodeFound CheckError) → k ≡ l → Answers found_view r (judge_found s (kind_view l at)) → Answers found_view r (judge_found s (kind_view k at))
found_as s k l at r is h = subst (λ x. Answers found_view r (judge_found s (kind_view x at))) (sym is) h

pub field_found : (s : Scope) (k : ExprKind) (at : Place) (p : Box ExprNode Global) (name : Name) (x : ExprNode) (r : Result CodeFound CheckError) → k ≡ Field p name → x ≡ p.value
    → Answers found_view r (judge_field s (judge_value s (node_view x)) name at) → Answers found_view r (judge_found s (kind_view k at))
field_found s k at p name x r is e h = found_as s k (Field p name) at r is (subst (λ z. Answers found_view r (judge_field s (judge_value s (node_view z)) name at)) e h)

pub item_found : (s : Scope) (k : ExprKind) (at : Place) (p q : Box ExprNode Global) (x y : ExprNode) (r : Result CodeFound CheckError) → k ≡ Index p q → x ≡ p.value → y ≡ q.value
    → Answers found_view r (judge_item (judge_found s (node_view x)) (judge_for s long (node_view y)) at) → Answers found_view r (judge_found s (kind_view k at))
item_found s k at p q x y r is e d h =
    found_as s k (Index p q) at r is
    (subst (λ z. Answers found_view r (judge_item (judge_found s (node_view z)) (judge_for s long (node_view q.value)) at)) e
    (subst (λ z. Answers found_view r (judge_item (judge_found s (node_view x)) (judge_for s long (node_view z)) at)) d h))

pub unary_found : (s : Scope) (k : ExprKind) (at : Place) (op : UnaryOp) (p : Box ExprNode Global) (x : ExprNode) (r : Result CodeFound CheckError) → k ≡ Unary op p → x ≡ p.value
    → Answers found_view r (judge_unary at op (judge_value s (node_view x))) → Answers found_view r (judge_found s (kind_view k at))
unary_found s k at op p x r is e h = found_as s k (Unary op p) at r is (subst (λ z. Answers found_view r (judge_unary at op (judge_value s (node_view z)))) e h)

pub binary_found : (s : Scope) (k : ExprKind) (at : Place) (op : BinaryOp) (p q : Box ExprNode Global) (x y : ExprNode) (r : Result CodeFound CheckError) → k ≡ Binary op p q → x ≡ p.value → y ≡ q.value
    → Answers found_view r (judge_binary at op (judge_value s (node_view x)) (judge_value s (node_view y))) → Answers found_view r (judge_found s (kind_view k at))
binary_found s k at op p q x y r is e d h =
    found_as s k (Binary op p q) at r is
    (subst (λ z. Answers found_view r (judge_binary at op (judge_value s (node_view z)) (judge_value s (node_view q.value)))) e
    (subst (λ z. Answers found_view r (judge_binary at op (judge_value s (node_view x)) (judge_value s (node_view z)))) d h))

-- targets
pub item_aimed : (s : Scope) (k : ExprKind) (at : Place) (p q : Box ExprNode Global) (x y : ExprNode) (r : Result (CodeTarget × CodeTy) CheckError) → k ≡ Index p q → x ≡ p.value → y ≡ q.value
    → Answers target_view r (judge_item_target (judge_found s (node_view x)) (judge_for s long (node_view y)) at) → Answers target_view r (judge_target s (kind_view k at))
item_aimed s k at p q x y r is e d h =
    subst (λ z. Answers target_view r (judge_target s (kind_view z at))) (sym is)
    (subst (λ z. Answers target_view r (judge_item_target (judge_found s (node_view z)) (judge_for s long (node_view q.value)) at)) e
    (subst (λ z. Answers target_view r (judge_item_target (judge_found s (node_view x)) (judge_for s long (node_view z)) at)) d h))

pub found_aimed : (s : Scope) (k : ExprKind) (at : Place) → ((p q : Box ExprNode Global) → k ≡ Index p q → ⊥) → judge_target s (kind_view k at) ≡ within (judge_found s (kind_view k at)) (λ f. is_target f at)
found_aimed s (Index' p at1 e q at2 i) at other = absurd (other _ _ refl)
found_aimed s k at other = refl
