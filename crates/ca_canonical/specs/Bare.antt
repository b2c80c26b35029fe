-- Trees but for their places: each place is put to that of the first byte.
use Rattle.std.specs.Prelude.{map, Option, Some, None}
use Rattle.ca_tree.specs.declared.name.Place.{Place}
use Rattle.ca_tree.specs.declared.tree.TypeNode.{TypeNode}
use Rattle.ca_tree.specs.declared.tree.TypeNode.TheVariants.{Long, Bool, Pointer}
use Rattle.ca_tree.specs.declared.tree.FieldNode.{FieldNode}
use Rattle.ca_tree.specs.declared.tree.ParamNode.{ParamNode}
use Rattle.ca_tree.specs.Plain.{Expression, Expressions, RightSide, Statement, Statements, MethodTree, MemberTree, ClassTree, TextTree, number, truth, null, this, named, call, field, method, index, unary, binary, no_expressions, expression_and, value, new, empty, block, local, assign, call_statement, if_only, if_else, while_loop, for_loop, return_value, print_value, no_statements, statement_and, field_member, method_member}

abbrev pub nowhere : Place
nowhere = record { line = 1; column = 1 }

abbrev mutual
  pub bare_expression : Expression → Expression
  bare_expression (number at n) = number nowhere n
  bare_expression (truth at b) = truth nowhere b
  bare_expression (null at) = null nowhere
  bare_expression (this at) = this nowhere
  bare_expression (named at n) = named nowhere n
  bare_expression (call at n es) = call nowhere n (bare_expressions es)
  bare_expression (field at e n) = field nowhere (bare_expression e) n
  bare_expression (method at e n es) = method nowhere (bare_expression e) n (bare_expressions es)
  bare_expression (index at e i) = index nowhere (bare_expression e) (bare_expression i)
  bare_expression (unary at o e) = unary nowhere o (bare_expression e)
  bare_expression (binary at o a b) = binary nowhere o (bare_expression a) (bare_expression b)

  pub bare_expressions : Expressions → Expressions
  bare_expressions no_expressions = no_expressions
  bare_expressions (expression_and e es) = expression_and (bare_expression e) (bare_expressions es)

abbrev pub bare_type : TypeNode → TypeNode
bare_type Long = Long
bare_type Bool = Bool
bare_type (Pointer name at) = Pointer name nowhere

abbrev pub bare_right : RightSide → RightSide
bare_right (value e) = value (bare_expression e)
bare_right (new name at) = new name nowhere

abbrev pub bare_start : Option RightSide → Option RightSide
bare_start None = None
bare_start (Some r) = Some (bare_right r)

abbrev mutual
  pub bare_statement : Statement → Statement
  bare_statement (empty at) = empty nowhere
  bare_statement (block at ss) = block nowhere (bare_statements ss)
  bare_statement (local at ty name name_at v) = local nowhere (bare_type ty) name nowhere (bare_start v)
  bare_statement (assign at target o r) = assign nowhere (bare_expression target) o (bare_right r)
  bare_statement (call_statement at e) = call_statement nowhere (bare_expression e)
  bare_statement (if_only at c s) = if_only nowhere (bare_expression c) (bare_statement s)
  bare_statement (if_else at c s t) = if_else nowhere (bare_expression c) (bare_statement s) (bare_statement t)
  bare_statement (while_loop at c s) = while_loop nowhere (bare_expression c) (bare_statement s)
  bare_statement (for_loop at first c next s) = for_loop nowhere (bare_statement first) (bare_expression c) (bare_statement next) (bare_statement s)
  bare_statement (return_value at e) = return_value nowhere (bare_expression e)
  bare_statement (print_value at e) = print_value nowhere (bare_expression e)

  pub bare_statements : Statements → Statements
  bare_statements no_statements = no_statements
  bare_statements (statement_and s ss) = statement_and (bare_statement s) (bare_statements ss)

abbrev pub bare_field : FieldNode → FieldNode
bare_field f = record { ty = bare_type f.ty; name = f.name; at = nowhere; length = f.length }

abbrev pub bare_param : ParamNode → ParamNode
bare_param p = record { ty = bare_type p.ty; name = p.name; at = nowhere }

abbrev pub bare_result : Option TypeNode → Option TypeNode
bare_result None = None
bare_result (Some ty) = Some (bare_type ty)

abbrev pub bare_method : MethodTree → MethodTree
bare_method m = record { result = bare_result m.result; name = m.name; at = nowhere; params = map bare_param m.params; body = bare_statements m.body }

abbrev pub bare_member : MemberTree → MemberTree
bare_member (field_member f) = field_member (bare_field f)
bare_member (method_member m) = method_member (bare_method m)

abbrev pub bare_class : ClassTree → ClassTree
bare_class c = record { name = c.name; at = nowhere; members = map bare_member c.members }

abbrev pub bare : TextTree → TextTree
bare t = record { classes = map bare_class t.classes; main = bare_statements t.main }
