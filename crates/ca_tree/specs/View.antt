-- The plain tree of the nodes that the parser makes: the abstraction function of trees.
use Rattle.std.specs.Prelude.{List, [], ◌∷◌, map, Option, Some, None}
use Rattle.ca_tree.specs.declared.name.Place.{Place}
use Rattle.ca_tree.specs.declared.tree.ExprNode.{ExprNode}
use Rattle.ca_tree.specs.declared.tree.ExprKind.{ExprKind, Number, Truth, Null, This, Named, Call', Field', Method', Index', Unary', Binary', Row_of-ExprNode, end_of-ExprNode, more_of-ExprNode}
use Rattle.ca_tree.specs.declared.tree.Right.{Right}
use Rattle.ca_tree.specs.declared.tree.Right.TheVariants.{Value, New}
use Rattle.ca_tree.specs.declared.tree.StmtNode.{StmtNode}
use Rattle.ca_tree.specs.declared.tree.StmtKind.{StmtKind, Empty, Block', Local, Assign, Call, If', While', For', Return, Print, Row_of-StmtNode, end_of-StmtNode, more_of-StmtNode, Held-StmtKind-If-2, None', Some'}
use Rattle.ca_tree.specs.declared.tree.MethodNode.{MethodNode}
use Rattle.ca_tree.specs.declared.tree.Member.{Member}
use Rattle.ca_tree.specs.declared.tree.Member.TheVariants.{Field, Method}
use Rattle.ca_tree.specs.declared.tree.ClassNode.{ClassNode}
use Rattle.ca_tree.specs.declared.tree.Tree.{Tree}
use Rattle.ca_tree.specs.Plain.{Expression, Expressions, RightSide, Statement, Statements, MethodTree, MemberTree, ClassTree, TextTree, number, truth, null, this, named, call, field, method, index, unary, binary, no_expressions, expression_and, value, new, empty, block, local, assign, call_statement, if_only, if_else, while_loop, for_loop, return_value, print_value, no_statements, statement_and, field_member, method_member}

abbrev mutual
  pub kind_view : ExprKind → Place → Expression
  kind_view (Number n) at = number at n
  kind_view (Truth b) at = truth at b
  kind_view Null at = null at
  kind_view This at = this at
  kind_view (Named name) at = named at name
  kind_view (Call' name shape all) at = call at name (row_view all)
  kind_view (Field' p at1 e name) at = field at (kind_view e at1) name
  kind_view (Method' p at1 e name shape all) at = method at (kind_view e at1) name (row_view all)
  kind_view (Index' p at1 e q at2 i) at = index at (kind_view e at1) (kind_view i at2)
  kind_view (Unary' op p at1 e) at = unary at op (kind_view e at1)
  kind_view (Binary' op p at1 a q at2 b) at = binary at op (kind_view a at1) (kind_view b at2)

  pub row_view : {m : _} → Row_of-ExprNode m → Expressions
  row_view end_of-ExprNode = no_expressions
  row_view (more_of-ExprNode at e rest) = expression_and (kind_view e at) (row_view rest)

abbrev pub expression_view : ExprNode → Expression
expression_view e = kind_view e.kind e.at

abbrev pub expressions_view : List ExprNode → Expressions
expressions_view [] = no_expressions
expressions_view (e ∷ es) = expression_and (expression_view e) (expressions_view es)

abbrev pub right_view : Right → RightSide
right_view (Value e) = value (expression_view e)
right_view (New name at) = new name at

abbrev pub option_right_view : Option Right → Option RightSide
option_right_view None = None
option_right_view (Some r) = Some (right_view r)

abbrev mutual
  pub form_view : StmtKind → Place → Statement
  form_view Empty at = empty at
  form_view (Block' shape all) at = block at (list_view all)
  form_view (Local ty name name_at v) at = local at ty name name_at (option_right_view v)
  form_view (Assign target op r) at = assign at (expression_view target) op (right_view r)
  form_view (Call e) at = call_statement at (expression_view e)
  form_view (If' c p at1 s h) at = branch_view at (expression_view c) (form_view s at1) h
  form_view (While' c p at1 s) at = while_loop at (expression_view c) (form_view s at1)
  form_view (For' p at1 first c q at2 next r at3 s) at = for_loop at (form_view first at1) (expression_view c) (form_view next at2) (form_view s at3)
  form_view (Return e) at = return_value at (expression_view e)
  form_view (Print e) at = print_value at (expression_view e)

  pub list_view : {m : _} → Row_of-StmtNode m → Statements
  list_view end_of-StmtNode = no_statements
  list_view (more_of-StmtNode at s rest) = statement_and (form_view s at) (list_view rest)

  pub branch_view : Place → Expression → Statement → Held-StmtKind-If-2 → Statement
  branch_view at c s None' = if_only at c s
  branch_view at c s (Some' p at1 other) = if_else at c s (form_view other at1)

abbrev pub statement_view : StmtNode → Statement
statement_view s = form_view s.kind s.at

abbrev pub statements_view : List StmtNode → Statements
statements_view [] = no_statements
statements_view (s ∷ ss) = statement_and (statement_view s) (statements_view ss)

abbrev pub method_view : MethodNode → MethodTree
method_view m = record { result = m.result; name = m.name; at = m.at; params = m.params.items; body = statements_view m.body.items }

abbrev pub member_view : Member → MemberTree
member_view (Field f) = field_member f
member_view (Method m) = method_member (method_view m)

abbrev pub class_view : ClassNode → ClassTree
class_view c = record { name = c.name; at = c.at; members = map member_view c.members.items }

abbrev pub tree_view : Tree → TextTree
tree_view t = record { classes = map class_view t.classes.items; main = statements_view t.main.items }
