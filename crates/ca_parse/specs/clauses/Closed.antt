-- What the clauses of the parsing functions speak of, and no rule of the grammar has: what may follow, and parts of rules.
use Rattle.std.specs.Prelude.{◌≡◌, ℕ, ℤ, Bool, true, false, cond, ◌&&◌, ◌||◌, List, [], ◌∷◌, ◌+◌, drop, Option, Some, None, is_some}
use Rattle.std.specs.declared.boxed.Box.{Box}
use Rattle.std.specs.Global.{Global}
use Rattle.ca_descent.specs.Exact.{Sees, head_of, Before, Following}
use Rattle.ca_tree.specs.declared.name.Place.{Place}
use Rattle.ca_tree.specs.declared.token.Token.{Token}
use Rattle.ca_tree.specs.declared.token.Keyword.TheVariants.{Long as LongKey, Bool as BoolKey, Public, If, Else, While, For}
use Rattle.ca_tree.specs.declared.token.Sign.TheVariants.{OpenBrace, OpenBracket, OpenParenthesis, CloseParenthesis, CloseBrace, Semicolon, Comma, Colon, Times}
use Rattle.ca_tree.specs.declared.tree.TypeNode.{TypeNode}
use Rattle.ca_tree.specs.declared.tree.StmtNode.{StmtNode}
use Rattle.ca_tree.specs.View.{statement_view}
use Rattle.ca_tree.specs.declared.tree.AssignOp.{AssignOp}
use Rattle.ca_tree.specs.declared.tree.ParamNode.{ParamNode}
use Rattle.ca_tree.specs.Plain.{Expression, RightSide, Statement, MemberTree, ClassTree, field_member, method_member, assign, call_statement, if_only, if_else, while_loop, for_loop, return_value, print_value}
use Rattle.ca_expressions.specs.Terminals.{key, sign, name, goes_on}
use Rattle.ca_expressions.specs.Grammar.{OuterExpression, OuterChain, is_call, is_target}
use Rattle.ca_parse.specs.Grammar.{Deriving, Right, Change, Assign, AssignLine, First, Stmt, Item, MainItem, Length, Signature, Further, Member, Lines, One, read, is_return_zero, kept, statements, is_open, first_place}

-- a statement in a box
abbrev pub stmt_view : Box StmtNode Global → Statement
stmt_view b = statement_view b.value

-- behind which nothing stands that an expression goes on with
abbrev pub RightClosed : Deriving RightSide
RightClosed = Before (goes_on 0) Right

abbrev pub ChangeClosed : Deriving (AssignOp × RightSide)
ChangeClosed = Before (goes_on 0) Change

abbrev pub AssignClosed : Deriving Statement
AssignClosed = Before (goes_on 0) Assign

-- an `else` behind it belongs to none of its ifs
pub record Shut (D : Deriving Statement) (free : ℕ) (s : List Token) (x : Statement) (r : List Token) : Type 0 where
  pub it : D free s x r
  pub shut : is_some (head_of (key Else) r) ≡ true → is_open x ≡ false

abbrev pub StmtClosed : ℕ → Deriving Statement
StmtClosed depth = Shut (Stmt depth)

abbrev pub ItemClosed : ℕ → Deriving Statement
ItemClosed depth = Shut (Item depth)

-- behind which no `[` stands
abbrev pub LengthClosed : Deriving (Option ℤ)
LengthClosed = Before (sign OpenBracket) Length

-- whether a local begins: `long`, `bool`, or a name and `*`
abbrev pub is_local : List Token → Bool
is_local s = is_some (head_of (key LongKey) s) || (is_some (head_of (key BoolKey) s)
    || (is_some (head_of name s) && is_some (head_of (sign Times) (drop 1 s))))

-- what stands behind the target x of an assignment
pub data AssignTo (x : Expression) : ℕ → List Token → Statement → List Token → Type 0 where
  assign_to : {free : ℕ} {s r : List Token} {c : AssignOp × RightSide} → Change free s c r
      → AssignTo x free s (assign (first_place x) x c.0 c.1) r

abbrev pub AssignToClosed : Expression → Deriving Statement
AssignToClosed x = Before (goes_on 0) (AssignTo x)

-- the `;` behind x
pub data Ended {A : Type 0} (x : A) : ℕ → List Token → A → List Token → Type 0 where
  semicolon : {free : ℕ} {s r : List Token} {e : Place} → Sees (sign Semicolon) s e r → Ended x free s x r

-- a chain that begins a statement: one that is called, or a target
pub data Use : Type 0 where
  calling : Expression → Use
  putting : Expression → Use

abbrev pub use_by : Expression → Bool → Bool → Option Use
use_by x true put = Some (calling x)
use_by x false true = Some (putting x)
use_by x false false = None

-- what a chain can be used for, if it is not `this` alone
abbrev pub use_of : Expression → Option Use
use_of x = use_by x (is_call x) (is_target x)

abbrev pub target_of : Expression → Option Expression
target_of x = cond (is_target x) (Some x) None

-- derivations of trees of which pick takes something
pub record Picked {A B : Type 0} (pick : A → Option B) (D : Deriving A) (free : ℕ) (s : List Token) (y : B) (r : List Token) : Type 0 where
  pub tree : A
  pub it : D free s tree r
  pub picked : pick tree ≡ Some y

-- what stands behind it
pub data Used : Use → ℕ → List Token → Statement → List Token → Type 0 where
  called : {free : ℕ} {s r : List Token} {e : Place} {x : Expression} → Sees (sign Semicolon) s e r
      → Used (calling x) free s (call_statement (first_place x) x) r
  put : {free : ℕ} {s s1 r : List Token} {e : Place} {x : Expression} {y : Statement} → AssignTo x free s y s1
      → Sees (sign Semicolon) s1 e r → Used (putting x) free s y r

-- what stands behind a branch y of an `if` with the condition x: an `else` and the other branch, or nothing
pub data Otherwise (depth : ℕ) (at : Place) (x : Expression) (y : Statement) : ℕ → List Token → Statement → List Token → Type 0 where
  with_else : {free : ℕ} {s s1 r : List Token} {e : Place} {z : Statement} → is_open y ≡ false
      → Sees (key Else) s e s1 → Stmt (depth + 1) free s1 z r → Otherwise depth at x y free s (if_else at x y z) r
  without : {free : ℕ} {s : List Token} → Otherwise depth at x y free s (if_only at x y) s

abbrev pub OtherwiseClosed : ℕ → Place → Expression → Statement → Deriving Statement
OtherwiseClosed depth at x y = Shut (Otherwise depth at x y)

-- "(" Expr ")"
pub data Condition : ℕ → List Token → Expression → List Token → Type 0 where
  condition : {free : ℕ} {s s1 s2 r : List Token} {o c : Place} {x : Expression} → Sees (sign OpenParenthesis) s o s1
      → OuterExpression free s1 x s2 → Sees (sign CloseParenthesis) s2 c r → Condition free s x r

-- what stands behind the word `if`, `while`, `for`, `return` or `print` at the place
pub data IfRest (depth : ℕ) (at : Place) : ℕ → List Token → Statement → List Token → Type 0 where
  if_rest : {free : ℕ} {s s1 s2 r : List Token} {x : Expression} {y z : Statement} → Condition free s x s1
      → Stmt (depth + 1) free s1 y s2 → Otherwise depth at x y free s2 z r → IfRest depth at free s z r

pub data WhileRest (depth : ℕ) (at : Place) : ℕ → List Token → Statement → List Token → Type 0 where
  while_rest : {free : ℕ} {s s1 r : List Token} {x : Expression} {y : Statement} → Condition free s x s1
      → Stmt (depth + 1) free s1 y r → WhileRest depth at free s (while_loop at x y) r

pub data ForRest (depth : ℕ) (at : Place) : ℕ → List Token → Statement → List Token → Type 0 where
  for_rest : {free : ℕ} {s s1 s2 s3 s4 s5 s6 r : List Token} {o e c : Place} {x : Expression} {first next y : Statement}
      → Sees (sign OpenParenthesis) s o s1 → First free s1 first s2 → OuterExpression free s2 x s3
      → Sees (sign Semicolon) s3 e s4 → Assign free s4 next s5 → Sees (sign CloseParenthesis) s5 c s6
      → Stmt (depth + 1) free s6 y r → ForRest depth at free s (for_loop at first x next y) r

pub data ReturnRest (at : Place) : ℕ → List Token → Statement → List Token → Type 0 where
  return_rest : {free : ℕ} {s s1 r : List Token} {e : Place} {x : Expression} → OuterExpression free s x s1
      → Sees (sign Semicolon) s1 e r → ReturnRest at free s (return_value at x) r

pub data PrintRest (at : Place) : ℕ → List Token → Statement → List Token → Type 0 where
  print_rest : {free : ℕ} {s s1 r : List Token} {e : Place} {x : Expression} → Condition free s x s1
      → Sees (sign Semicolon) s1 e r → PrintRest at free s (print_value at x) r

-- a statement that begins with a chain
pub data Simple : ℕ → List Token → Statement → List Token → Type 0 where
  simple_call : {free : ℕ} {s s1 r : List Token} {e : Place} {x : Expression} → OuterChain free s x s1 → is_call x ≡ true
      → Sees (sign Semicolon) s1 e r → Simple free s (call_statement (first_place x) x) r
  simple_put : {free : ℕ} {s r : List Token} {x : Statement} → AssignLine free s x r → Simple free s x r

abbrev pub IfRestClosed : ℕ → Place → Deriving Statement
IfRestClosed depth at = Shut (IfRest depth at)

abbrev pub WhileRestClosed : ℕ → Place → Deriving Statement
WhileRestClosed depth at = Shut (WhileRest depth at)

abbrev pub ForRestClosed : ℕ → Place → Deriving Statement
ForRestClosed depth at = Shut (ForRest depth at)

-- whether a statement begins that counts for the nesting of its tokens
abbrev pub is_nested : List Token → Bool
is_nested s = is_some (head_of (sign OpenBrace) s) || (is_some (head_of (key If) s)
    || (is_some (head_of (key While) s) || is_some (head_of (key For) s)))

-- a field of the type, with its name and its length
pub data Named (ty : TypeNode) : ℕ → List Token → MemberTree → List Token → Type 0 where
  named_field : {free : ℕ} {s s1 r : List Token} {n : List ℕ × Place} {l : Option ℤ} → Sees name s n s1 → Length free s1 l r
      → Named ty free s (field_member (record { ty = ty; name = n.0; at = n.1; length = l })) r

abbrev pub NamedClosed : TypeNode → Deriving MemberTree
NamedClosed ty = Before (sign OpenBracket) (Named ty)

abbrev pub FurtherClosed : TypeNode → Deriving MemberTree
FurtherClosed ty = Before (sign OpenBracket) (Further ty)

-- what stands behind the result and the name of a method
pub data MethodOf (result : Option TypeNode) (n : List ℕ × Place) : ℕ → List Token → List MemberTree → List Token → Type 0 where
  method_of : {free : ℕ} {s r : List Token} {m : List ParamNode × List Statement} → Signature free s m r
      → MethodOf result n free s (method_member (record { result = result; name = n.0; at = n.1; params = m.0; body = statements m.1 }) ∷ []) r

-- what stands behind the type and the name of a member
pub data MemberRest (ty : TypeNode) (n : List ℕ × Place) : ℕ → List Token → List MemberTree → List Token → Type 0 where
  method_rest : {free : ℕ} {s r : List Token} {m : List ParamNode × List Statement} → Signature free s m r
      → MemberRest ty n free s (method_member (record { result = Some ty; name = n.0; at = n.1; params = m.0; body = statements m.1 }) ∷ []) r
  field_rest : {free : ℕ} {s s1 r : List Token} {l : Option ℤ} {fs : List MemberTree} → Length free s l s1
      → Following (Further ty) (sign Comma) (sign Semicolon) free s1 fs r
      → MemberRest ty n free s (field_member (record { ty = ty; name = n.0; at = n.1; length = l }) ∷ fs) r

-- what stands behind `class` and the name
pub data DeclarationRest (n : List ℕ × Place) : ℕ → List Token → List ClassTree → List Token → Type 0 where
  forward_rest : {free : ℕ} {s r : List Token} {e : Place} → Sees (sign Semicolon) s e r → DeclarationRest n free s [] r
  class_rest : {free : ℕ} {s s1 s2 s3 s4 r : List Token} {o p d e : Place} {ms : List MemberTree} → Sees (sign OpenBrace) s o s1
      → Sees (key Public) s1 p s2 → Sees (sign Colon) s2 d s3 → Lines Member (sign CloseBrace) free s3 ms s4
      → Sees (sign Semicolon) s4 e r → DeclarationRest n free s (record { name = n.0; at = n.1; members = ms } ∷ []) r

-- an item of `main` behind which no `else` stands that would belong to it
pub data MainItemClosed : ℕ → List Token → Statement × Bool → List Token → Type 0 where
  main_closed : {free : ℕ} {s r : List Token} {x : Statement} → ItemClosed 1 free s x r
      → MainItemClosed free s (x, is_return_zero (read s r)) r

-- the items of `main` and the brace behind them, as the statements that stay
pub data MainBody : ℕ → List Token → List Statement → List Token → Type 0 where
  main_body : {free : ℕ} {s r : List Token} {xs : List (Statement × Bool)} → Lines (One MainItem) (sign CloseBrace) free s xs r
      → MainBody free s (kept xs) r
