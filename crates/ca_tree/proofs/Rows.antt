-- Nodes in a Vec are viewed as the list that it holds.
use Rattle.std.proofs.Common.{◌≡◌, refl, ◌∙◌, ap, Global}
use Rattle.std.specs.declared.vec.Vec.{Vec}
use Rattle.ca_tree.specs.declared.name.Place.{Place}
use Rattle.ca_tree.specs.declared.name.Name.{Name}
use Rattle.ca_tree.specs.declared.tree.ExprNode.{ExprNode}
use Rattle.ca_tree.specs.declared.tree.ExprKind.{Call, Row_of-ExprNode, end_of-ExprNode, more_of-ExprNode, items-the_row-ExprNode, items_hidden-the_row-ExprNode-0}
use Rattle.ca_tree.specs.declared.tree.ExprKind.TheBlock.{hidden-the_row-ExprNode-0}
use Rattle.ca_tree.specs.declared.tree.StmtNode.{StmtNode}
use Rattle.ca_tree.specs.declared.tree.StmtKind.{Block, Row_of-StmtNode, end_of-StmtNode, more_of-StmtNode, items-the_row-StmtNode, items_hidden-the_row-StmtNode-0}
use Rattle.ca_tree.specs.declared.tree.StmtKind.TheBlock.{hidden-the_row-StmtNode-0}
use Rattle.ca_tree.specs.Plain.{expression_and, statement_and, call, block}
use Rattle.ca_tree.specs.View.{kind_view, row_view, expressions_view, form_view, list_view, statements_view}

expression_row : {n : _} (k : Row_of-ExprNode n) → row_view k ≡ expressions_view (items-the_row-ExprNode n k)
expression_row end_of-ExprNode = refl
expression_row (more_of-ExprNode at e rest) = ap (λ z. expression_and (kind_view e at) z) (expression_row rest)

pub row_is_list : (v : Vec ExprNode Global) → row_view (hidden-the_row-ExprNode-0 v) ≡ expressions_view v.items
row_is_list v = expression_row (hidden-the_row-ExprNode-0 v) ∙ ap expressions_view (items_hidden-the_row-ExprNode-0 v)

statement_row : {n : _} (k : Row_of-StmtNode n) → list_view k ≡ statements_view (items-the_row-StmtNode n k)
statement_row end_of-StmtNode = refl
statement_row (more_of-StmtNode at s rest) = ap (λ z. statement_and (form_view s at) z) (statement_row rest)

pub statements_are_list : (v : Vec StmtNode Global) → list_view (hidden-the_row-StmtNode-0 v) ≡ statements_view v.items
statements_are_list v = statement_row (hidden-the_row-StmtNode-0 v) ∙ ap statements_view (items_hidden-the_row-StmtNode-0 v)

-- the nodes that hold a Vec
pub call_is : (at : Place) (name : Name) (v : Vec ExprNode Global) → kind_view (Call name v) at ≡ call at name (expressions_view v.items)
call_is at name v = ap (λ es. call at name es) (row_is_list v)

pub block_is : (at : Place) (v : Vec StmtNode Global) → form_view (Block v) at ≡ block at (statements_view v.items)
block_is at v = ap (λ ss. block at ss) (statements_are_list v)
