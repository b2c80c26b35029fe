-- Nodes that hold expressions in a Vec.
use Rattle.std.proofs.Common.{◌≡◌, ap, Global}
use Rattle.std.specs.declared.vec.Vec.{Vec}
use Rattle.std.specs.declared.boxed.Box.{Box}
use Rattle.ca_tree.specs.declared.name.Place.{Place}
use Rattle.ca_tree.specs.declared.name.Name.{Name}
use Rattle.ca_tree.specs.declared.tree.ExprNode.{ExprNode}
use Rattle.ca_tree.specs.declared.tree.ExprKind.{Method}
use Rattle.ca_tree.specs.Plain.{method}
use Rattle.ca_tree.specs.View.{kind_view, expression_view, expressions_view}
use Rattle.ca_tree.proofs.Rows.{row_is_list}

pub method_is : (at : Place) (b : Box ExprNode Global) (name : Name) (v : Vec ExprNode Global) → kind_view (Method b name v) at ≡ method at (expression_view b.value) name (expressions_view v.items)
method_is at b name v = ap (λ es. method at (expression_view b.value) name es) (row_is_list v)
