-- The tree of a text as plain values: no node says where it lies in memory.
-- A type, a field and a parameter as declared are plain already, since a name is seen as its bytes.
use Rattle.std.specs.Prelude.{ℕ, ℤ, Bool, List, Option}
use Rattle.ca_tree.specs.declared.name.Place.{Place}
use Rattle.ca_tree.specs.declared.tree.TypeNode.{TypeNode}
use Rattle.ca_tree.specs.declared.tree.FieldNode.{FieldNode}
use Rattle.ca_tree.specs.declared.tree.ParamNode.{ParamNode}
use Rattle.ca_tree.specs.declared.tree.AssignOp.{AssignOp}
use Rattle.ca_tree.specs.declared.tree.UnaryOp.{UnaryOp}
use Rattle.ca_tree.specs.declared.tree.BinaryOp.{BinaryOp}

-- each expression begins with its place; a name is its bytes
mutual
  pub data Expression : Type 0 where
    number : Place → ℤ → Expression
    truth : Place → Bool → Expression
    null : Place → Expression
    this : Place → Expression
    named : Place → List ℕ → Expression
    call : Place → List ℕ → Expressions → Expression
    field : Place → Expression → List ℕ → Expression
    method : Place → Expression → List ℕ → Expressions → Expression
    index : Place → Expression → Expression → Expression
    unary : Place → UnaryOp → Expression → Expression
    binary : Place → BinaryOp → Expression → Expression → Expression

  pub data Expressions : Type 0 where
    no_expressions : Expressions
    expression_and : Expression → Expressions → Expressions

-- what a target is put to
pub data RightSide : Type 0 where
  value : Expression → RightSide
  new : List ℕ → Place → RightSide

-- each statement begins with its place
mutual
  pub data Statement : Type 0 where
    empty : Place → Statement
    block : Place → Statements → Statement
    local : Place → TypeNode → List ℕ → Place → Option RightSide → Statement
    assign : Place → Expression → AssignOp → RightSide → Statement
    call_statement : Place → Expression → Statement
    if_only : Place → Expression → Statement → Statement
    if_else : Place → Expression → Statement → Statement → Statement
    while_loop : Place → Expression → Statement → Statement
    for_loop : Place → Statement → Expression → Statement → Statement → Statement
    return_value : Place → Expression → Statement
    print_value : Place → Expression → Statement

  pub data Statements : Type 0 where
    no_statements : Statements
    statement_and : Statement → Statements → Statements

pub record MethodTree : Type 0 where
  pub result : Option TypeNode
  pub name : List ℕ
  pub at : Place
  pub params : List ParamNode
  pub body : Statements

pub data MemberTree : Type 0 where
  field_member : FieldNode → MemberTree
  method_member : MethodTree → MemberTree

pub record ClassTree : Type 0 where
  pub name : List ℕ
  pub at : Place
  pub members : List MemberTree

pub record TextTree : Type 0 where
  pub classes : List ClassTree
  pub main : Statements
