-- A resolved program as plain values: nothing says where it lies in memory.
-- Ids, types and fields as declared are plain already, since a name is seen as its bytes.
use Rattle.std.specs.Prelude.{ℕ, ℤ, Bool, List, Option}
use Rattle.ca_tree.specs.declared.tree.AssignOp.{AssignOp}
use Rattle.ca_tree.specs.declared.tree.UnaryOp.{UnaryOp}
use Rattle.ca_tree.specs.declared.tree.BinaryOp.{BinaryOp}
use Rattle.ca_program.specs.declared.program.ClassId.{ClassId}
use Rattle.ca_program.specs.declared.program.OpId.{OpId}
use Rattle.ca_program.specs.declared.program.FunctionId.{FunctionId}
use Rattle.ca_program.specs.declared.program.LoopId.{LoopId}
use Rattle.ca_program.specs.declared.program.LocalId.{LocalId}
use Rattle.ca_program.specs.declared.program.FieldId.{FieldId}
use Rattle.ca_program.specs.declared.program.ValueType.{ValueType}
use Rattle.ca_program.specs.declared.program.FieldInfo.{FieldInfo}
use Rattle.ca_program.specs.declared.program.FirstPart.{FirstPart}

mutual
  pub data Expression : Type 0 where
    number : ℤ → Expression
    truth : Bool → Expression
    null : Expression
    this : Expression
    local : LocalId → Expression
    own : FieldId → Expression
    own_item : FieldId → Expression → Expression
    read : Expression → FieldId → Expression
    read_item : Expression → FieldId → Expression → Expression
    value_call : Expression → FunctionId → Expressions → Expression
    unary : UnaryOp → Expression → Expression
    binary : BinaryOp → Expression → Expression → Expression

  pub data Expressions : Type 0 where
    no_expressions : Expressions
    expression_and : Expression → Expressions → Expressions

-- each statement begins with its line
mutual
  pub data Statement : Type 0 where
    block : ℕ → Statements → Statement
    put_local : ℕ → LocalId → AssignOp → Expression → Statement
    put_field : ℕ → FieldId → AssignOp → Expression → Statement
    put_item : ℕ → FieldId → Expression → AssignOp → Expression → Statement
    new_local : ℕ → LocalId → ClassId → Statement
    new_field : ℕ → FieldId → ClassId → Statement
    new_item : ℕ → FieldId → Expression → ClassId → Statement
    invoke : ℕ → Expression → OpId → Expressions → Statement
    if_else : ℕ → Expression → Statement → Statement → Statement
    while_loop : ℕ → Expression → Statement → Statement
    for_loop : ℕ → LoopId → FirstPart → Statement → Expression → Statement → Statement → Statement
    return_value : ℕ → Expression → Statement
    print_value : ℕ → Expression → Statement

  pub data Statements : Type 0 where
    no_statements : Statements
    statement_and : Statement → Statements → Statements

pub record PlainBody : Type 0 where
  pub locals : List ValueType
  pub statements : Statements

pub record PlainMethod : Type 0 where
  pub class : ClassId
  pub name : List ℕ
  pub params : ℕ
  pub body : PlainBody
  pub result : Option ValueType

pub record PlainClass : Type 0 where
  pub name : List ℕ
  pub fields : List FieldInfo

pub record PlainProgram : Type 0 where
  pub classes : List PlainClass
  pub ops : List PlainMethod
  pub functions : List PlainMethod
  pub main : PlainBody
