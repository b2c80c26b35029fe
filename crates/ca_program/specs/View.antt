-- The plain program of a program in memory: the abstraction function of programs.
use Rattle.std.specs.Prelude.{ℕ, List, [], ◌∷◌, map}
use Rattle.ca_program.specs.declared.program.Expr.{Expr, Number, Truth, Null, This, Local, Own, OwnItem', Read', ReadItem', Value', Unary', Binary', Row_of-Expr, end_of-Expr, more_of-Expr}
use Rattle.ca_program.specs.declared.program.Stmt.{Stmt}
use Rattle.ca_program.specs.declared.program.StmtForm.{StmtForm, Block', PutLocal, PutField, PutItem, NewLocal, NewField, NewItem, Invoke, If', While', For', Return, Print, Row_of-Stmt, end_of-Stmt, more_of-Stmt}
use Rattle.ca_program.specs.declared.program.Body.{Body}
use Rattle.ca_program.specs.declared.program.Method.{Method}
use Rattle.ca_program.specs.declared.program.Class.{Class}
use Rattle.ca_program.specs.declared.program.Program.{Program}
use Rattle.ca_program.specs.Plain.{Expression, Expressions, number, truth, null, this, local, own, own_item, read, read_item, value_call, unary, binary, no_expressions, expression_and, Statement, Statements, block, put_local, put_field, put_item, new_local, new_field, new_item, invoke, if_else, while_loop, for_loop, return_value, print_value, no_statements, statement_and, PlainBody, PlainMethod, PlainClass, PlainProgram}

abbrev mutual
  pub expression_view : Expr → Expression
  expression_view (Number n) = number n
  expression_view (Truth b) = truth b
  expression_view Null = null
  expression_view This = this
  expression_view (Local l) = local l
  expression_view (Own f) = own f
  expression_view (OwnItem' f p i) = own_item f (expression_view i)
  expression_view (Read' p e f) = read (expression_view e) f
  expression_view (ReadItem' p e f q i) = read_item (expression_view e) f (expression_view i)
  expression_view (Value' p e m shape all) = value_call (expression_view e) m (row_view all)
  expression_view (Unary' op p e) = unary op (expression_view e)
  expression_view (Binary' op p a q b) = binary op (expression_view a) (expression_view b)

  pub row_view : {m : _} → Row_of-Expr m → Expressions
  row_view end_of-Expr = no_expressions
  row_view (more_of-Expr e rest) = expression_and (expression_view e) (row_view rest)

abbrev pub expressions_view : List Expr → Expressions
expressions_view [] = no_expressions
expressions_view (e ∷ es) = expression_and (expression_view e) (expressions_view es)

abbrev mutual
  pub form_view : StmtForm → ℕ → Statement
  form_view (Block' shape all) line = block line (list_view all)
  form_view (PutLocal l op e) line = put_local line l op (expression_view e)
  form_view (PutField f op e) line = put_field line f op (expression_view e)
  form_view (PutItem f i op e) line = put_item line f (expression_view i) op (expression_view e)
  form_view (NewLocal l c) line = new_local line l c
  form_view (NewField f c) line = new_field line f c
  form_view (NewItem f i c) line = new_item line f (expression_view i) c
  form_view (Invoke e op args) line = invoke line (expression_view e) op (expressions_view args.items)
  form_view (If' c p line1 a q line2 b) line = if_else line (expression_view c) (form_view a line1) (form_view b line2)
  form_view (While' c p line1 s) line = while_loop line (expression_view c) (form_view s line1)
  form_view (For' site part p line1 first c q line2 next r line3 s) line = for_loop line site part (form_view first line1) (expression_view c) (form_view next line2) (form_view s line3)
  form_view (Return e) line = return_value line (expression_view e)
  form_view (Print e) line = print_value line (expression_view e)

  pub list_view : {m : _} → Row_of-Stmt m → Statements
  list_view end_of-Stmt = no_statements
  list_view (more_of-Stmt line s rest) = statement_and (form_view s line) (list_view rest)

abbrev pub statement_view : Stmt → Statement
statement_view s = form_view s.kind s.line

abbrev pub statements_view : List Stmt → Statements
statements_view [] = no_statements
statements_view (s ∷ ss) = statement_and (statement_view s) (statements_view ss)

abbrev pub body_view : Body → PlainBody
body_view b = record { locals = b.locals.items; statements = statements_view b.stmts.items }

abbrev pub method_view : Method → PlainMethod
method_view m = record { class = m.class; name = m.name; params = m.params; body = body_view m.body; result = m.result }

abbrev pub class_view : Class → PlainClass
class_view c = record { name = c.name; fields = c.fields.items }

abbrev pub program_view : Program → PlainProgram
program_view p = record { classes = map class_view p.classes.items; ops = map method_view p.ops.items; functions = map method_view p.functions.items; main = body_view p.main }
