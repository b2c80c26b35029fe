-- What stands in a body, each thing as often as it does and in the order of the text.
use Rattle.std.specs.Prelude.{List, [], ◌∷◌, ◌++◌, flat_map}
use Rattle.ca_program.specs.declared.program.FieldId.{FieldId}
use Rattle.ca_program.specs.declared.program.FunctionId.{FunctionId}
use Rattle.ca_program.specs.declared.program.OpId.{OpId}
use Rattle.ca_program.specs.Plain.{Expression, Expressions, number, truth, null, this, local, own, own_item, read, read_item, value_call, unary, binary, no_expressions, expression_and, Statement, Statements, block, put_local, put_field, put_item, new_local, new_field, new_item, invoke, if_else, while_loop, for_loop, return_value, print_value, no_statements, statement_and}

-- In an expression

-- the value methods that are called
abbrev mutual
  pub functions_in : Expression → List FunctionId
  functions_in (number n) = []
  functions_in (truth b) = []
  functions_in null = []
  functions_in this = []
  functions_in (local l) = []
  functions_in (own f) = []
  functions_in (own_item f i) = functions_in i
  functions_in (read e f) = functions_in e
  functions_in (read_item e f i) = functions_in e ++ functions_in i
  functions_in (value_call e m arguments) = functions_in e ++ (functions_in_all arguments ++ m ∷ [])
  functions_in (unary op e) = functions_in e
  functions_in (binary op a b) = functions_in a ++ functions_in b

  pub functions_in_all : Expressions → List FunctionId
  functions_in_all no_expressions = []
  functions_in_all (expression_and e es) = functions_in e ++ functions_in_all es

-- the fields that are read, of the receiver and of other objects
abbrev mutual
  pub fields_in : Expression → List FieldId
  fields_in (number n) = []
  fields_in (truth b) = []
  fields_in null = []
  fields_in this = []
  fields_in (local l) = []
  fields_in (own f) = f ∷ []
  fields_in (own_item f i) = f ∷ fields_in i
  fields_in (read e f) = fields_in e ++ f ∷ []
  fields_in (read_item e f i) = fields_in e ++ f ∷ fields_in i
  fields_in (value_call e m arguments) = fields_in e ++ fields_in_all arguments
  fields_in (unary op e) = fields_in e
  fields_in (binary op a b) = fields_in a ++ fields_in b

  pub fields_in_all : Expressions → List FieldId
  fields_in_all no_expressions = []
  fields_in_all (expression_and e es) = fields_in e ++ fields_in_all es

-- In a statement and the statements that it holds

abbrev pub listed : Expressions → List Expression
listed no_expressions = []
listed (expression_and e es) = e ∷ listed es

-- the expressions
abbrev mutual
  pub expressions_of : Statement → List Expression
  expressions_of (block line ss) = expressions_of_all ss
  expressions_of (put_local line l op e) = e ∷ []
  expressions_of (put_field line f op e) = e ∷ []
  expressions_of (put_item line f i op e) = i ∷ e ∷ []
  expressions_of (new_local line l c) = []
  expressions_of (new_field line f c) = []
  expressions_of (new_item line f i c) = i ∷ []
  expressions_of (invoke line e op arguments) = e ∷ listed arguments
  expressions_of (if_else line c a b) = c ∷ (expressions_of a ++ expressions_of b)
  expressions_of (while_loop line c b) = c ∷ expressions_of b
  expressions_of (for_loop line site part first c next b) = expressions_of first ++ c ∷ (expressions_of next ++ expressions_of b)
  expressions_of (return_value line e) = e ∷ []
  expressions_of (print_value line e) = e ∷ []

  pub expressions_of_all : Statements → List Expression
  expressions_of_all no_statements = []
  expressions_of_all (statement_and s ss) = expressions_of s ++ expressions_of_all ss

-- the operations that are called
abbrev mutual
  pub calls_of : Statement → List OpId
  calls_of (block line ss) = calls_of_all ss
  calls_of (invoke line e op arguments) = op ∷ []
  calls_of (if_else line c a b) = calls_of a ++ calls_of b
  calls_of (while_loop line c b) = calls_of b
  calls_of (for_loop line site part first c next b) = calls_of first ++ (calls_of next ++ calls_of b)
  calls_of (put_local line l op e) = []
  calls_of (put_field line f op e) = []
  calls_of (put_item line f i op e) = []
  calls_of (new_local line l c) = []
  calls_of (new_field line f c) = []
  calls_of (new_item line f i c) = []
  calls_of (return_value line e) = []
  calls_of (print_value line e) = []

  pub calls_of_all : Statements → List OpId
  calls_of_all no_statements = []
  calls_of_all (statement_and s ss) = calls_of s ++ calls_of_all ss

-- the fields that puts and creations write
abbrev mutual
  pub targets_of : Statement → List FieldId
  targets_of (block line ss) = targets_of_all ss
  targets_of (put_field line f op e) = f ∷ []
  targets_of (put_item line f i op e) = f ∷ []
  targets_of (new_field line f c) = f ∷ []
  targets_of (new_item line f i c) = f ∷ []
  targets_of (if_else line c a b) = targets_of a ++ targets_of b
  targets_of (while_loop line c b) = targets_of b
  targets_of (for_loop line site part first c next b) = targets_of first ++ (targets_of next ++ targets_of b)
  targets_of (put_local line l op e) = []
  targets_of (new_local line l c) = []
  targets_of (invoke line e op arguments) = []
  targets_of (return_value line e) = []
  targets_of (print_value line e) = []

  pub targets_of_all : Statements → List FieldId
  targets_of_all no_statements = []
  targets_of_all (statement_and s ss) = targets_of s ++ targets_of_all ss

-- the `for` statements
abbrev mutual
  pub fors_in : Statement → List Statement
  fors_in (block line ss) = fors_in_all ss
  fors_in (if_else line c a b) = fors_in a ++ fors_in b
  fors_in (while_loop line c b) = fors_in b
  fors_in (for_loop line site part first c next b) = for_loop line site part first c next b ∷ (fors_in first ++ (fors_in next ++ fors_in b))
  fors_in (put_local line l op e) = []
  fors_in (put_field line f op e) = []
  fors_in (put_item line f i op e) = []
  fors_in (new_local line l c) = []
  fors_in (new_field line f c) = []
  fors_in (new_item line f i c) = []
  fors_in (invoke line e op arguments) = []
  fors_in (return_value line e) = []
  fors_in (print_value line e) = []

  pub fors_in_all : Statements → List Statement
  fors_in_all no_statements = []
  fors_in_all (statement_and s ss) = fors_in s ++ fors_in_all ss

-- the value methods that the expressions of a body call, and the fields that they read
abbrev pub functions_of_body : Statements → List FunctionId
functions_of_body ss = flat_map functions_in (expressions_of_all ss)

abbrev pub reads_of_body : Statements → List FieldId
reads_of_body ss = flat_map fields_in (expressions_of_all ss)
