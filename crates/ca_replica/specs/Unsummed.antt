-- Whether a body does more with a written field than to add to it, computed.
use Rattle.std.specs.Prelude.{Bool, true, false, not, ◌||◌, List, [], ◌∷◌}
use Rattle.ca_tree.specs.declared.tree.AssignOp.{AssignOp}
use Rattle.ca_tree.specs.declared.tree.AssignOp.TheVariants.{Put, Add, Sub, Mul, BitAnd, BitOr, BitXor}
use Rattle.ca_tree.specs.declared.tree.BinaryOp.{BinaryOp}
use Rattle.ca_tree.specs.declared.tree.BinaryOp.TheVariants.{Plus, Minus}
use Rattle.ca_program.specs.declared.program.FieldId.{FieldId}
use Rattle.ca_program.specs.declared.program.OpId.{OpId}
use Rattle.ca_program.specs.Fields.{same_field}
use Rattle.ca_program.specs.Plain.{PlainProgram, Expression, Expressions, number, truth, null, this, local, own, own_item, read, read_item, value_call, unary, binary, no_expressions, expression_and, Statement, Statements, block, put_local, put_field, put_item, new_local, new_field, new_item, invoke, if_else, while_loop, for_loop, return_value, print_value, no_statements, statement_and}
use Rattle.ca_parallel.specs.Extents.{operation_body}
use Rattle.ca_section.specs.Offences.{is_written}

-- an expression reads a written field
abbrev mutual
  pub touches : List FieldId → Expression → Bool
  touches w (number n) = false
  touches w (truth b) = false
  touches w null = false
  touches w this = false
  touches w (local l) = false
  touches w (own f) = is_written w f
  touches w (own_item f i) = is_written w f || touches w i
  touches w (read e f) = is_written w f || touches w e
  touches w (read_item e f i) = is_written w f || (touches w e || touches w i)
  touches w (value_call e m arguments) = touches w e || touches_any w arguments
  touches w (unary op e) = touches w e
  touches w (binary op a b) = touches w a || touches w b

  pub touches_any : List FieldId → Expressions → Bool
  touches_any w no_expressions = false
  touches_any w (expression_and e es) = touches w e || touches_any w es

abbrev pub is_no_sum : BinaryOp → Bool
is_no_sum Plus = false
is_no_sum Minus = false
is_no_sum _ = true

-- what is put into the field is no sum with it
abbrev pub puts_else : List FieldId → FieldId → Expression → Bool
puts_else w f (binary op (own g) e) = is_no_sum op || (not (same_field g f) || touches w e)
puts_else w f _ = true

abbrev pub assigns_else : List FieldId → FieldId → AssignOp → Expression → Bool
assigns_else w f Add e = touches w e
assigns_else w f Sub e = touches w e
assigns_else w f Put e = puts_else w f e
assigns_else w f Mul e = true
assigns_else w f BitAnd e = true
assigns_else w f BitOr e = true
assigns_else w f BitXor e = true

abbrev mutual
  pub does_else : List FieldId → Statement → Bool
  does_else w (block line ss) = any_does_else w ss
  does_else w (put_local line l op e) = touches w e
  does_else w (put_field line f op e) = assigns_else w f op e
  does_else w (put_item line f i op e) = true
  does_else w (new_local line l c) = false
  does_else w (new_field line f c) = true
  does_else w (new_item line f i c) = true
  does_else w (invoke line e op arguments) = touches w e || touches_any w arguments
  does_else w (if_else line c a b) = touches w c || (does_else w a || does_else w b)
  does_else w (while_loop line c b) = touches w c || does_else w b
  does_else w (for_loop line site part first c next b) = does_else w first || (touches w c || (does_else w next || does_else w b))
  does_else w (return_value line e) = touches w e
  does_else w (print_value line e) = touches w e

  pub any_does_else : List FieldId → Statements → Bool
  any_does_else w no_statements = false
  any_does_else w (statement_and s ss) = does_else w s || any_does_else w ss

abbrev pub some_does_else : PlainProgram → List FieldId → List OpId → Bool
some_does_else p w [] = false
some_does_else p w (op ∷ ops) = any_does_else w (operation_body p op) || some_does_else p w ops
