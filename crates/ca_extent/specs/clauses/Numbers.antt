-- The numbers of the methods that a body calls, operations or value methods, in the order of the text.
use Rattle.std.specs.Prelude.{ℕ, List, [], ◌∷◌, ◌++◌}
use Rattle.ca_program.specs.declared.program.OpId.{OpId}
use Rattle.ca_program.specs.Plain.{Expression, Expressions, number, truth, null, this, local, own, own_item, read, read_item, value_call, unary, binary, no_expressions, expression_and, Statement, Statements, block, put_local, put_field, put_item, new_local, new_field, new_item, invoke, if_else, while_loop, for_loop, return_value, print_value, no_statements, statement_and}
use Rattle.ca_extent.specs.declared.numbers.Callees.{Callees}
use Rattle.ca_extent.specs.declared.numbers.Callees.TheVariants.{Operations, Functions}

-- the value methods that an expression calls
abbrev mutual
  pub values_in : Expression → List ℕ
  values_in (number n) = []
  values_in (truth b) = []
  values_in null = []
  values_in this = []
  values_in (local l) = []
  values_in (own f) = []
  values_in (own_item f i) = values_in i
  values_in (read e f) = values_in e
  values_in (read_item e f i) = values_in e ++ values_in i
  values_in (value_call e m arguments) = values_in e ++ (values_in_all arguments ++ m.0 ∷ [])
  values_in (unary op e) = values_in e
  values_in (binary op a b) = values_in a ++ values_in b

  pub values_in_all : Expressions → List ℕ
  values_in_all no_expressions = []
  values_in_all (expression_and e es) = values_in e ++ values_in_all es

abbrev pub call_number : Callees → OpId → List ℕ
call_number Operations op = op.0 ∷ []
call_number Functions op = []

-- an expression calls no operation
abbrev pub numbers_in : Callees → Expression → List ℕ
numbers_in Operations e = []
numbers_in Functions e = values_in e

abbrev pub numbers_in_all : Callees → Expressions → List ℕ
numbers_in_all Operations es = []
numbers_in_all Functions es = values_in_all es

abbrev mutual
  pub numbers_of : Callees → Statement → List ℕ
  numbers_of m (block line ss) = numbers_of_all m ss
  numbers_of m (put_local line l op e) = numbers_in m e
  numbers_of m (put_field line f op e) = numbers_in m e
  numbers_of m (put_item line f i op e) = numbers_in m i ++ numbers_in m e
  numbers_of m (new_local line l c) = []
  numbers_of m (new_field line f c) = []
  numbers_of m (new_item line f i c) = numbers_in m i
  numbers_of m (invoke line e op arguments) = numbers_in m e ++ (call_number m op ++ numbers_in_all m arguments)
  numbers_of m (if_else line c a b) = numbers_in m c ++ (numbers_of m a ++ numbers_of m b)
  numbers_of m (while_loop line c b) = numbers_in m c ++ numbers_of m b
  numbers_of m (for_loop line site part first c next b) = numbers_of m first ++ (numbers_in m c ++ (numbers_of m next ++ numbers_of m b))
  numbers_of m (return_value line e) = numbers_in m e
  numbers_of m (print_value line e) = numbers_in m e

  pub numbers_of_all : Callees → Statements → List ℕ
  numbers_of_all m no_statements = []
  numbers_of_all m (statement_and s ss) = numbers_of m s ++ numbers_of_all m ss
