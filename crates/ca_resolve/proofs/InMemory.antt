-- Nodes in memory, as the plain tree and the plain program have them.
use Rattle.std.proofs.Common.{◌≡◌, List, [], ◌∷◌, map, length, refl, ap, arith, Global}
use Rattle.std.specs.declared.vec.Vec.{Vec}
use Rattle.std.specs.declared.boxed.Box.{Box}
use Rattle.ca_tree.specs.declared.name.Place.{Place}
use Rattle.ca_tree.specs.declared.name.Name.{Name}
use Rattle.ca_tree.specs.declared.tree.ExprNode.{ExprNode}
use Rattle.ca_tree.specs.declared.tree.ExprKind.{ExprKind, Number, Truth, Null, This, Named, Call', Field', Method', Index', Unary', Binary'}
use Rattle.ca_tree.specs.declared.tree.ExprKind.{Method}
use Rattle.ca_tree.specs.Plain.{Expressions, method}
use Rattle.ca_tree.specs.View.{kind_view, expression_view as node_view, expressions_view as nodes_view}
use Rattle.ca_tree.proofs.Rows as tree
use Rattle.ca_program.specs.declared.program.Expr.{Expr}
use Rattle.ca_program.specs.Plain as program
use Rattle.ca_program.specs.View.{expression_view, expressions_view}
use Rattle.ca_resolve.specs.Values.{place_of, count_of, in_order}

place_kept : (k : ExprKind) (at : Place) → place_of (kind_view k at) ≡ at
place_kept (Number n) at = refl
place_kept (Truth b) at = refl
place_kept Null at = refl
place_kept This at = refl
place_kept (Named name) at = refl
place_kept (Call' name shape all) at = refl
place_kept (Field' p at1 e name) at = refl
place_kept (Method' p at1 e name shape all) at = refl
place_kept (Index' p at1 e q at2 i) at = refl
place_kept (Unary' op p at1 e) at = refl
place_kept (Binary' op p at1 a q at2 b) at = refl

-- a node's place is kept beside it
pub place_is : (e : ExprNode) → place_of (node_view e) ≡ e.at
place_is e = place_kept e.kind e.at

pub method_is : (at : Place) (p : Box ExprNode Global) (name : Name) (v : Vec ExprNode Global) → kind_view (Method p name v) at ≡ method at (node_view p.value) name (nodes_view v.items)
method_is at p name v = ap (λ (es : Expressions). method at (node_view p.value) name es) (tree.row_is_list v)

pub count_is : (es : List ExprNode) → count_of (nodes_view es) ≡ length es
count_is [] = refl
count_is (e ∷ es) = let h = count_is es in omega (arith, h)

pub in_order_is : (es : List Expr) → in_order (map expression_view es) ≡ expressions_view es
in_order_is [] = refl
in_order_is (e ∷ es) = ap (λ xs. program.expression_and (expression_view e) xs) (in_order_is es)
