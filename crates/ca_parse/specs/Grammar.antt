-- The grammar of texts, statements and classes. `D free tokens tree rest` says that the tokens in front of the rest
-- derive the tree, where limits on nesting are asked of all tokens but the last `free` ones.
-- `{ x }` is any number of x, `[ x ]` is x or nothing, and signs stand in quotes; Expr and Chain are those of expressions:
--
--   Program   = { Class | Forward } "int" "main" "(" ")" "{" { Item } [ "return" "0" ";" ] "}"
--   Forward   = "class" name ";"
--   Class     = "class" name "{" "public" ":" { Member } "}" ";"
--   Member    = FieldLine | Method
--   FieldLine = "long" Decl { "," Decl } ";" | "bool" Decl { "," Decl } ";" | name "*" Decl { "," "*" Decl } ";"
--   Decl      = name [ "[" number "]" ]
--   Method    = ( "void" | Type ) name "(" [ Param { "," Param } ] ")" "{" { Item } "}"
--   Param     = Type name
--   Type      = "long" | "bool" | name "*"
--   Item      = Local | Stmt
--   Local     = Type name [ "=" Right ] ";"
--   Stmt      = "{" { Item } "}" | ";" | Assign ";" | Chain ";"
--             | "if" "(" Expr ")" Stmt [ "else" Stmt ]
--             | "while" "(" Expr ")" Stmt
--             | "for" "(" First Expr ";" Assign ")" Stmt
--             | "return" Expr ";" | "print" "(" Expr ")" ";"
--   First     = Local | Assign ";"
--   Assign    = Chain Change
--   Change    = "=" Right | ( "+=" | "-=" | "*=" | "&=" | "|=" | "^=" ) Expr | "++" | "--"
--   Right     = Expr | "new" name [ "(" ")" ]
--
-- A chain that is a statement ends in a call, and one that is a target in a name or an index. An `else` belongs to the nearest `if`
-- that has none. `return 0 ;` directly before the brace that ends the text leaves no trace.
-- Each family has a constructor for each of its alternatives. A class, field, method or parameter has the place of its
-- name, a statement that of its first token.
use Rattle.std.specs.Prelude.{◌≡◌, ℕ, ℤ, pos, ◌+◌, ◌-◌, ◌<◌, Bool, true, false, cond, ◌&&◌, List, [], ◌∷◌, ◌++◌, length, take, Option, Some, None, is_some}
use Rattle.ca_descent.specs.Exact.{Grammar, Sees, Asked, Separated, Following}
use Rattle.ca_tree.specs.declared.name.Place.{Place}
use Rattle.ca_tree.specs.declared.token.Token.{Token}
use Rattle.ca_tree.specs.declared.token.Keyword.TheVariants.{Class as ClassKey, Public, Long as LongKey, Bool as BoolKey, Int, Void, If, Else, While, For, Return, New, Print, Main}
use Rattle.ca_tree.specs.declared.token.Sign.TheVariants.{OpenBrace, CloseBrace, OpenParenthesis, CloseParenthesis, OpenBracket, CloseBracket, Semicolon, Comma, Colon, Assign as AssignSign, Times, Increment, Decrement}
use Rattle.ca_tree.specs.declared.tree.TypeNode.{TypeNode}
use Rattle.ca_tree.specs.declared.tree.TypeNode.TheVariants.{Long, Bool as BoolType, Pointer}
use Rattle.ca_tree.specs.declared.tree.ParamNode.{ParamNode}
use Rattle.ca_tree.specs.declared.tree.AssignOp.{AssignOp}
use Rattle.ca_tree.specs.declared.tree.AssignOp.TheVariants.{Put, Add, Sub}
use Rattle.ca_tree.specs.Plain.{Expression, RightSide, Statement, Statements, MemberTree, ClassTree, TextTree, number as number_tree, truth, null, this, named, call, field, method, index, unary, binary, value, new, empty, block, local, assign, call_statement, if_only, if_else, while_loop, for_loop, return_value, print_value, no_statements, statement_and, field_member, method_member}
use Rattle.ca_expressions.specs.Terminals.{key, sign, name, number, zero}
use Rattle.ca_expressions.specs.Grammar.{OuterExpression, OuterChain, is_call, is_target}
use Rattle.ca_parse.specs.declared.statements.TheConstants.{DEEPEST}
use Rattle.ca_parse.specs.Compounds.{compound}

abbrev pub Deriving : Type 0 → Type 1
Deriving A = Grammar Token A

-- a list of statements as the tree has it
abbrev pub statements : List Statement → Statements
statements [] = no_statements
statements (s ∷ ss) = statement_and s (statements ss)

-- a chain's first token has this place
abbrev pub first_place : Expression → Place
first_place (number_tree at n) = at
first_place (truth at b) = at
first_place (null at) = at
first_place (this at) = at
first_place (named at n) = at
first_place (call at n es) = at
first_place (field at e n) = first_place e
first_place (method at e n es) = first_place e
first_place (index at e i) = first_place e
first_place (unary at o e) = at
first_place (binary at o a b) = first_place a

-- Type, whose name is a word of antt: the type, and the place of its first token
pub data TypeName : ℕ → List Token → TypeNode × Place → List Token → Type 0 where
  long : {free : ℕ} {s r : List Token} {p : Place} → Sees (key LongKey) s p r → TypeName free s (Long, p) r
  bool : {free : ℕ} {s r : List Token} {p : Place} → Sees (key BoolKey) s p r → TypeName free s (BoolType, p) r
  pointer : {free : ℕ} {s s1 r : List Token} {n : List ℕ × Place} {t : Place} → Sees name s n s1
      → Sees (sign Times) s1 t r → TypeName free s (Pointer n.0 n.1, n.1) r

pub data Right : ℕ → List Token → RightSide → List Token → Type 0 where
  expression : {free : ℕ} {s r : List Token} {x : Expression} → OuterExpression free s x r → Right free s (value x) r
  creation : {free : ℕ} {s s1 r : List Token} {w : Place} {n : List ℕ × Place} → Sees (key New) s w s1
      → Sees name s1 n r → Right free s (new n.0 n.1) r
  creation_call : {free : ℕ} {s s1 s2 s3 r : List Token} {w o c : Place} {n : List ℕ × Place} → Sees (key New) s w s1
      → Sees name s1 n s2 → Sees (sign OpenParenthesis) s2 o s3 → Sees (sign CloseParenthesis) s3 c r
      → Right free s (new n.0 n.1) r

-- Local, with the `;` behind it
pub data Local : ℕ → List Token → Statement → List Token → Type 0 where
  declares : {free : ℕ} {s s1 s2 r : List Token} {ty : TypeNode × Place} {n : List ℕ × Place} {e : Place}
      → TypeName free s ty s1 → Sees name s1 n s2 → Sees (sign Semicolon) s2 e r
      → Local free s (local ty.1 ty.0 n.0 n.1 None) r
  begins : {free : ℕ} {s s1 s2 s3 s4 r : List Token} {ty : TypeNode × Place} {n : List ℕ × Place} {a e : Place} {x : RightSide}
      → TypeName free s ty s1 → Sees name s1 n s2 → Sees (sign AssignSign) s2 a s3 → Right free s3 x s4
      → Sees (sign Semicolon) s4 e r → Local free s (local ty.1 ty.0 n.0 n.1 (Some x)) r

-- `++` is `+= 1` and `--` is `-= 1`, where the 1 has the place of the sign
pub data Change : ℕ → List Token → AssignOp × RightSide → List Token → Type 0 where
  puts : {free : ℕ} {s s1 r : List Token} {a : Place} {x : RightSide} → Sees (sign AssignSign) s a s1
      → Right free s1 x r → Change free s (Put, x) r
  changes : {free : ℕ} {s s1 r : List Token} {op : AssignOp} {x : Expression} → Sees compound s op s1
      → OuterExpression free s1 x r → Change free s (op, value x) r
  increments : {free : ℕ} {s r : List Token} {p : Place} → Sees (sign Increment) s p r
      → Change free s (Add, value (number_tree p (pos 1))) r
  decrements : {free : ℕ} {s r : List Token} {p : Place} → Sees (sign Decrement) s p r
      → Change free s (Sub, value (number_tree p (pos 1))) r

pub data Assign : ℕ → List Token → Statement → List Token → Type 0 where
  assigns : {free : ℕ} {s s1 r : List Token} {x : Expression} {c : AssignOp × RightSide} → OuterChain free s x s1
      → is_target x ≡ true → Change free s1 c r → Assign free s (assign (first_place x) x c.0 c.1) r

-- Assign ";"
pub data AssignLine : ℕ → List Token → Statement → List Token → Type 0 where
  assign_line : {free : ℕ} {s s1 r : List Token} {e : Place} {x : Statement} → Assign free s x s1
      → Sees (sign Semicolon) s1 e r → AssignLine free s x r

pub data First : ℕ → List Token → Statement → List Token → Type 0 where
  first_local : {free : ℕ} {s r : List Token} {x : Statement} → Local free s x r → First free s x r
  first_assign : {free : ℕ} {s r : List Token} {x : Statement} → AssignLine free s x r → First free s x r

-- whether an `else` behind the statement would belong to one of its ifs
abbrev pub is_open : Statement → Bool
is_open (empty at) = false
is_open (block at ss) = false
is_open (local at ty n p r) = false
is_open (assign at e op r) = false
is_open (call_statement at e) = false
is_open (if_only at e s) = true
is_open (if_else at e s other) = is_open other
is_open (while_loop at e s) = is_open s
is_open (for_loop at first e next s) = is_open s
is_open (return_value at e) = false
is_open (print_value at e) = false

-- A block, `if`, `while` or `for` that begins here in so many others makes at most 200 with them, or no limit is asked.
-- The first token that passes the limit is the first token of one of these, so it is asked nowhere else.
abbrev pub Nested : ℕ → ℕ → List Token → Type 0
Nested depth free s = Asked (depth < DEEPEST) free s

-- statements in so many blocks, ifs and loops, the body of a method or of `main` included
mutual
  pub data Stmt : ℕ → ℕ → List Token → Statement → List Token → Type 0 where
    nothing : {depth free : ℕ} {s r : List Token} {p : Place} → Sees (sign Semicolon) s p r → Stmt depth free s (empty p) r
    a_block : {depth free : ℕ} {s s1 r : List Token} {p : Place} {xs : List Statement} → Nested depth free s
        → Sees (sign OpenBrace) s p s1 → Items (depth + 1) free s1 xs r → Stmt depth free s (block p (statements xs)) r
    an_assign : {depth free : ℕ} {s r : List Token} {x : Statement} → AssignLine free s x r → Stmt depth free s x r
    a_call : {depth free : ℕ} {s s1 r : List Token} {e : Place} {x : Expression} → OuterChain free s x s1
        → is_call x ≡ true → Sees (sign Semicolon) s1 e r → Stmt depth free s (call_statement (first_place x) x) r
    an_if : {depth free : ℕ} {s s1 s2 s3 s4 r : List Token} {p o c : Place} {x : Expression} {y : Statement}
        → Nested depth free s → Sees (key If) s p s1 → Sees (sign OpenParenthesis) s1 o s2 → OuterExpression free s2 x s3
        → Sees (sign CloseParenthesis) s3 c s4 → Stmt (depth + 1) free s4 y r → Stmt depth free s (if_only p x y) r
    an_if_else : {depth free : ℕ} {s s1 s2 s3 s4 s5 s6 r : List Token} {p o c e : Place} {x : Expression} {y z : Statement}
        → Nested depth free s → Sees (key If) s p s1 → Sees (sign OpenParenthesis) s1 o s2 → OuterExpression free s2 x s3
        → Sees (sign CloseParenthesis) s3 c s4 → Stmt (depth + 1) free s4 y s5 → is_open y ≡ false
        → Sees (key Else) s5 e s6 → Stmt (depth + 1) free s6 z r → Stmt depth free s (if_else p x y z) r
    a_while : {depth free : ℕ} {s s1 s2 s3 s4 r : List Token} {p o c : Place} {x : Expression} {y : Statement}
        → Nested depth free s → Sees (key While) s p s1 → Sees (sign OpenParenthesis) s1 o s2 → OuterExpression free s2 x s3
        → Sees (sign CloseParenthesis) s3 c s4 → Stmt (depth + 1) free s4 y r → Stmt depth free s (while_loop p x y) r
    a_for : {depth free : ℕ} {s s1 s2 s3 s4 s5 s6 s7 r : List Token} {p o e c : Place} {x : Expression}
        {first next y : Statement} → Nested depth free s → Sees (key For) s p s1 → Sees (sign OpenParenthesis) s1 o s2
        → First free s2 first s3 → OuterExpression free s3 x s4 → Sees (sign Semicolon) s4 e s5 → Assign free s5 next s6
        → Sees (sign CloseParenthesis) s6 c s7 → Stmt (depth + 1) free s7 y r → Stmt depth free s (for_loop p first x next y) r
    a_return : {depth free : ℕ} {s s1 s2 r : List Token} {p e : Place} {x : Expression} → Sees (key Return) s p s1
        → OuterExpression free s1 x s2 → Sees (sign Semicolon) s2 e r → Stmt depth free s (return_value p x) r
    a_print : {depth free : ℕ} {s s1 s2 s3 s4 r : List Token} {p o c e : Place} {x : Expression} → Sees (key Print) s p s1
        → Sees (sign OpenParenthesis) s1 o s2 → OuterExpression free s2 x s3 → Sees (sign CloseParenthesis) s3 c s4
        → Sees (sign Semicolon) s4 e r → Stmt depth free s (print_value p x) r

  pub data Item : ℕ → ℕ → List Token → Statement → List Token → Type 0 where
    a_local : {depth free : ℕ} {s r : List Token} {x : Statement} → Local free s x r → Item depth free s x r
    a_statement : {depth free : ℕ} {s r : List Token} {x : Statement} → Stmt depth free s x r → Item depth free s x r

  -- { Item } "}"
  pub data Items : ℕ → ℕ → List Token → List Statement → List Token → Type 0 where
    items_end : {depth free : ℕ} {s r : List Token} {c : Place} → Sees (sign CloseBrace) s c r → Items depth free s [] r
    items_and : {depth free : ℕ} {s q r : List Token} {x : Statement} {xs : List Statement} → Item depth free s x q
        → Items depth free q xs r → Items depth free s (x ∷ xs) r

-- { line } close, where each line gives some items
pub data Lines {A B : Type 0} (D : Deriving (List A)) (close : Token → Option B)
    : ℕ → List Token → List A → List Token → Type 0 where
  lines_end : {free : ℕ} {s r : List Token} {c : B} → Sees close s c r → Lines D close free s [] r
  lines_and : {free : ℕ} {s q r : List Token} {xs ys : List A} → D free s xs q → Lines D close free q ys r
      → Lines D close free s (xs ++ ys) r

-- a line that gives one item
pub data One {A : Type 0} (D : Deriving A) : ℕ → List Token → List A → List Token → Type 0 where
  one : {free : ℕ} {s r : List Token} {x : A} → D free s x r → One D free s (x ∷ []) r

-- [ D { "," D } ] ")"
abbrev pub Listed : {A : Type 0} → Deriving A → Deriving (List A)
Listed D = Separated D (sign Comma) (sign CloseParenthesis)

pub data Param : ℕ → List Token → ParamNode → List Token → Type 0 where
  param : {free : ℕ} {s s1 r : List Token} {ty : TypeNode × Place} {n : List ℕ × Place} → TypeName free s ty s1
      → Sees name s1 n r → Param free s (record { ty = ty.0; name = n.0; at = n.1 }) r

-- "(" [ Param { "," Param } ] ")" "{" { Item } "}"
pub data Signature : ℕ → List Token → List ParamNode × List Statement → List Token → Type 0 where
  signature : {free : ℕ} {s s1 s2 s3 r : List Token} {o b : Place} {ps : List ParamNode} {xs : List Statement}
      → Sees (sign OpenParenthesis) s o s1 → Listed Param free s1 ps s2 → Sees (sign OpenBrace) s2 b s3
      → Items 1 free s3 xs r → Signature free s (ps, xs) r

-- [ "[" number "]" ]
pub data Length : ℕ → List Token → Option ℤ → List Token → Type 0 where
  scalar : {free : ℕ} {s : List Token} → Length free s None s
  array : {free : ℕ} {s s1 s2 r : List Token} {o c : Place} {n : ℤ × Place} → Sees (sign OpenBracket) s o s1
      → Sees number s1 n s2 → Sees (sign CloseBracket) s2 c r → Length free s (Some n.0) r

abbrev pub is_pointer : TypeNode → Bool
is_pointer Long = false
is_pointer BoolType = false
is_pointer (Pointer n at) = true

-- what stands behind a comma in a line of fields of the type
pub data Further (ty : TypeNode) : ℕ → List Token → MemberTree → List Token → Type 0 where
  further_plain : {free : ℕ} {s s1 r : List Token} {n : List ℕ × Place} {l : Option ℤ} → is_pointer ty ≡ false
      → Sees name s n s1 → Length free s1 l r
      → Further ty free s (field_member (record { ty = ty; name = n.0; at = n.1; length = l })) r
  further_pointer : {free : ℕ} {s s1 s2 r : List Token} {t : Place} {n : List ℕ × Place} {l : Option ℤ} → is_pointer ty ≡ true
      → Sees (sign Times) s t s1 → Sees name s1 n s2 → Length free s2 l r
      → Further ty free s (field_member (record { ty = ty; name = n.0; at = n.1; length = l })) r

-- a member line gives its fields, or its method
pub data Member : ℕ → List Token → List MemberTree → List Token → Type 0 where
  fields : {free : ℕ} {s s1 s2 s3 r : List Token} {ty : TypeNode × Place} {n : List ℕ × Place} {l : Option ℤ} {fs : List MemberTree}
      → TypeName free s ty s1 → Sees name s1 n s2 → Length free s2 l s3
      → Following (Further ty.0) (sign Comma) (sign Semicolon) free s3 fs r
      → Member free s (field_member (record { ty = ty.0; name = n.0; at = n.1; length = l }) ∷ fs) r
  operation : {free : ℕ} {s s1 s2 r : List Token} {v : Place} {n : List ℕ × Place} {m : List ParamNode × List Statement}
      → Sees (key Void) s v s1 → Sees name s1 n s2 → Signature free s2 m r
      → Member free s (method_member (record { result = None; name = n.0; at = n.1; params = m.0; body = statements m.1 }) ∷ []) r
  value_method : {free : ℕ} {s s1 s2 r : List Token} {ty : TypeNode × Place} {n : List ℕ × Place} {m : List ParamNode × List Statement}
      → TypeName free s ty s1 → Sees name s1 n s2 → Signature free s2 m r
      → Member free s (method_member (record { result = Some ty.0; name = n.0; at = n.1; params = m.0; body = statements m.1 }) ∷ []) r

-- Class or Forward, which leaves no trace
pub data Declaration : ℕ → List Token → List ClassTree → List Token → Type 0 where
  forward : {free : ℕ} {s s1 s2 r : List Token} {c e : Place} {n : List ℕ × Place} → Sees (key ClassKey) s c s1
      → Sees name s1 n s2 → Sees (sign Semicolon) s2 e r → Declaration free s [] r
  a_class : {free : ℕ} {s s1 s2 s3 s4 s5 s6 r : List Token} {c o p d e : Place} {n : List ℕ × Place} {ms : List MemberTree}
      → Sees (key ClassKey) s c s1 → Sees name s1 n s2 → Sees (sign OpenBrace) s2 o s3 → Sees (key Public) s3 p s4
      → Sees (sign Colon) s4 d s5 → Lines Member (sign CloseBrace) free s5 ms s6 → Sees (sign Semicolon) s6 e r
      → Declaration free s (record { name = n.0; at = n.1; members = ms } ∷ []) r

-- the tokens in front of the rest
abbrev pub read : List Token → List Token → List Token
read s r = take (length s - length r) s

-- `return 0 ;`
abbrev pub is_return_zero : List Token → Bool
is_return_zero [] = false
is_return_zero (t ∷ []) = false
is_return_zero (t ∷ u ∷ []) = false
is_return_zero (t ∷ u ∷ v ∷ []) = is_some (key Return t) && is_some (zero u) && is_some (sign Semicolon v)
is_return_zero (t ∷ u ∷ v ∷ w ∷ s) = false

-- an item of `main`, and whether it is `return 0 ;`
pub data MainItem : ℕ → List Token → Statement × Bool → List Token → Type 0 where
  main_item : {free : ℕ} {s r : List Token} {x : Statement} → Item 1 free s x r
      → MainItem free s (x, is_return_zero (read s r)) r

-- the items of `main` but for a last one that is `return 0 ;`
abbrev pub kept : List (Statement × Bool) → List Statement
kept [] = []
kept (x ∷ []) = cond x.1 [] (x.0 ∷ [])
kept (x ∷ y ∷ xs) = x.0 ∷ kept (y ∷ xs)

pub data Program : ℕ → List Token → TextTree → List Token → Type 0 where
  program : {free : ℕ} {s s1 s2 s3 s4 s5 r : List Token} {m o c b : Place} {cs : List ClassTree} {xs : List (Statement × Bool)}
      → Lines Declaration (key Int) free s cs s1 → Sees (key Main) s1 m s2 → Sees (sign OpenParenthesis) s2 o s3
      → Sees (sign CloseParenthesis) s3 c s4 → Sees (sign OpenBrace) s4 b s5
      → Lines (One MainItem) (sign CloseBrace) free s5 xs r
      → Program free s (record { classes = cs; main = statements (kept xs) }) r

-- All of the tokens derive the tree. No limit is asked of the last `free` of them.
abbrev pub DerivesFree : ℕ → List Token → TextTree → Type 0
DerivesFree free ts x = Program free ts x []

-- the tokens derive the tree
abbrev pub Derives : List Token → TextTree → Type 0
Derives ts x = DerivesFree (length ts) ts x

-- they derive it, and none of them passes a limit on nesting
abbrev pub DerivesWithin : List Token → TextTree → Type 0
DerivesWithin ts x = DerivesFree 0 ts x
