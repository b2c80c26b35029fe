-- Tokens of which each number fits the type `long` and each word is a name, and trees of which each number in an expression
-- and each name of a class or method is so.
use Rattle.std.specs.Prelude.{List, Option, Some, None, FitsSigned}
use Rattle.std.specs.Int.{w64}
use Rattle.std.specs.List.{AllByRecursion}
use Rattle.ca_tree.specs.declared.token.Token.{Token}
use Rattle.ca_tree.specs.declared.token.Kind.{Kind}
use Rattle.ca_tree.specs.declared.token.Kind.TheVariants.{Word, Number, Key, Sign}
use Rattle.ca_typing.specs.Names.{IsName}
use Rattle.ca_tree.specs.Plain.{Expression, Expressions, number, truth, null, this, named, call, field, method, index, unary, binary, no_expressions, expression_and, RightSide, value, new, Statement, Statements, empty, block, local, assign, call_statement, if_only, if_else, while_loop, for_loop, return_value, print_value, no_statements, statement_and, MemberTree, ClassTree, TextTree, field_member, method_member}

abbrev pub KindFits : Kind → Type 0
KindFits (Number n) = FitsSigned w64 n
KindFits (Word name) = IsName name
KindFits (Key key) = Unit {0}
KindFits (Sign sign) = Unit {0}

abbrev pub TokenFits : Token → Type 0
TokenFits t = KindFits t.kind

abbrev pub TokensFit : List Token → Type 0
TokensFit = AllByRecursion TokenFits

abbrev mutual
  pub NumbersFit : Expression → Type 0
  NumbersFit (number at n) = FitsSigned w64 n
  NumbersFit (truth at b) = Unit {0}
  NumbersFit (null at) = Unit {0}
  NumbersFit (this at) = Unit {0}
  NumbersFit (named at name) = Unit {0}
  NumbersFit (call at name args) = AllNumbersFit args
  NumbersFit (field at e name) = NumbersFit e
  NumbersFit (method at e name args) = NumbersFit e × AllNumbersFit args
  NumbersFit (index at e i) = NumbersFit e × NumbersFit i
  NumbersFit (unary at op e) = NumbersFit e
  NumbersFit (binary at op a b) = NumbersFit a × NumbersFit b

  pub AllNumbersFit : Expressions → Type 0
  AllNumbersFit no_expressions = Unit {0}
  AllNumbersFit (expression_and e es) = NumbersFit e × AllNumbersFit es

abbrev pub RightFits : RightSide → Type 0
RightFits (value e) = NumbersFit e
RightFits (new name at) = Unit {0}

-- the initial value of a local, if it has one
abbrev pub StartFits : Option RightSide → Type 0
StartFits None = Unit {0}
StartFits (Some right) = RightFits right

abbrev mutual
  pub StatementFits : Statement → Type 0
  StatementFits (empty at) = Unit {0}
  StatementFits (block at ss) = StatementsFit ss
  StatementFits (local at ty name name_at right) = StartFits right
  StatementFits (assign at target op right) = NumbersFit target × RightFits right
  StatementFits (call_statement at e) = NumbersFit e
  StatementFits (if_only at e s) = NumbersFit e × StatementFits s
  StatementFits (if_else at e a b) = NumbersFit e × StatementFits a × StatementFits b
  StatementFits (while_loop at e s) = NumbersFit e × StatementFits s
  StatementFits (for_loop at first e next s) = StatementFits first × NumbersFit e × StatementFits next × StatementFits s
  StatementFits (return_value at e) = NumbersFit e
  StatementFits (print_value at e) = NumbersFit e

  pub StatementsFit : Statements → Type 0
  StatementsFit no_statements = Unit {0}
  StatementsFit (statement_and s ss) = StatementFits s × StatementsFit ss

-- the length of an array field is no expression: a limit of its own bounds it
abbrev pub MemberFits : MemberTree → Type 0
MemberFits (field_member f) = Unit {0}
MemberFits (method_member m) = IsName m.name × StatementsFit m.body

abbrev pub ClassFits : ClassTree → Type 0
ClassFits c = IsName c.name × AllByRecursion MemberFits c.members

pub record LiteralsFit (t : TextTree) : Type 0 where
  pub classes : AllByRecursion ClassFits t.classes
  pub main : StatementsFit t.main
