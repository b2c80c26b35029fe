-- The grammar of expressions and chains. `D tokens tree rest` says that the tokens in front of the rest derive the tree.
-- `{ x }` is any number of x, `[ x ]` is x or nothing, and signs stand in quotes:
--
--   Expr    = And { "||" And }
--   And     = BitOr { "&&" BitOr }
--   BitOr   = BitXor { "|" BitXor }
--   BitXor  = BitAnd { "^" BitAnd }
--   BitAnd  = Equal { "&" Equal }
--   Equal   = Rel { ( "==" | "!=" ) Rel }
--   Rel     = Sum { ( "<" | ">" | "<=" | ">=" ) Sum }
--   Sum     = Prod { ( "+" | "-" ) Prod }
--   Prod    = Unary { ( "*" | "/" | "%" ) Unary }
--   Unary   = { "-" | "!" } Primary
--   Primary = number | "true" | "false" | "nullptr" | Chain | "(" Expr ")" { Tail }
--           | ( "max" | "min" ) "(" Expr "," Expr ")"
--   Chain   = ( "this" | name [ Args ] ) { Tail }
--   Tail    = "->" name [ Args ] | "[" Expr "]"
--   Args    = "(" [ Expr { "," Expr } ] ")"
--
-- The first nine lines are one rule, `Level`, with the levels of the operators and their signs: Expr is level 0, Prod the
-- last of the LEVELS, and Unary stands behind them. Operators of a level associate to the left. The place of a unary or
-- binary node is that of its operator, a sign or a key word, of a field or method that of `->`, of an index that of `[`,
-- and of any other node that of its first token. Brackets round an expression leave no node.
use Rattle.std.specs.Prelude.{ℕ, ◌+◌, ◌<◌, ◌≤◌, List, [], ◌∷◌, Bool, true, false}
use Rattle.ca_descent.specs.Exact.{Grammar, Sees, Before, Short}
use Rattle.ca_tree.specs.declared.name.Place.{Place}
use Rattle.ca_tree.specs.declared.token.Token.{Token}
use Rattle.ca_tree.specs.declared.token.Keyword.TheVariants.{This}
use Rattle.ca_tree.specs.declared.token.Sign.TheVariants.{OpenParenthesis, CloseParenthesis, OpenBracket, CloseBracket, Comma, Arrow}
use Rattle.ca_tree.specs.declared.tree.UnaryOp.{UnaryOp}
use Rattle.ca_tree.specs.declared.tree.BinaryOp.{BinaryOp}
use Rattle.ca_tree.specs.declared.operators.TheConstants.{LEVELS}
use Rattle.ca_tree.specs.Operators.{unary_level}
use Rattle.ca_tree.specs.Plain.{Expression, Expressions, number, truth, null, this, named, call, field, method, index, unary, binary, no_expressions, expression_and}
use Rattle.ca_expressions.specs.declared.expressions.TheConstants.{MOST_IN_EXPRESSION}
use Rattle.ca_expressions.specs.Terminals.{key, sign, name, literal, unary_operator, operator, word_operator, goes_on}

-- the arguments as the tree has them
abbrev pub expressions : List Expression → Expressions
expressions [] = no_expressions
expressions (e ∷ es) = expression_and e (expressions es)

mutual
  -- operands of level k + 1 with operators of level k between them
  pub data Level : ℕ → List Token → Expression → List Token → Type 0 where
    operands : {k : ℕ} {s s1 r : List Token} {a x : Expression} → k < LEVELS → Level (k + 1) s a s1 → Operands k a s1 x r
        → Level k s x r
    one_operand : {k : ℕ} {s r : List Token} {x : Expression} → LEVELS ≤ k → Unary s x r → Level k s x r

  -- { operator Level } behind the operand a, to the left
  pub data Operands : ℕ → Expression → List Token → Expression → List Token → Type 0 where
    operands_end : {k : ℕ} {a : Expression} {s : List Token} → Operands k a s a s
    operands_more : {k : ℕ} {a b x : Expression} {s s1 s2 r : List Token} {o : BinaryOp × Place} → Sees (operator k) s o s1
        → Level (k + 1) s1 b s2 → Operands k (binary o.1 o.0 a b) s2 x r → Operands k a s x r

  pub data Unary : List Token → Expression → List Token → Type 0 where
    unary_first : {s s1 r : List Token} {x : Expression} {o : UnaryOp × Place} → Sees unary_operator s o s1 → Unary s1 x r
        → Unary s (unary o.1 o.0 x) r
    unary_last : {s r : List Token} {x : Expression} → Primary s x r → Unary s x r

  pub data Primary : List Token → Expression → List Token → Type 0 where
    a_literal : {s r : List Token} {x : Expression} → Sees literal s x r → Primary s x r
    a_chain : {s r : List Token} {x : Expression} → Chain s x r → Primary s x r
    in_brackets : {s s1 s2 s3 r : List Token} {a x : Expression} {o c : Place} → Sees (sign OpenParenthesis) s o s1
        → Level 0 s1 a s2 → Sees (sign CloseParenthesis) s2 c s3 → Tails a s3 x r → Primary s x r
    by_word : {s s1 r : List Token} {x : Expression} {o : BinaryOp × Place} → Sees word_operator s o s1 → Sides o s1 x r
        → Primary s x r

  -- "(" Expr "," Expr ")" behind the key word of the operator o
  pub data Sides : BinaryOp × Place → List Token → Expression → List Token → Type 0 where
    sides : {o : BinaryOp × Place} {s s1 s2 s3 s4 r : List Token} {a b : Expression} {p c d : Place} → Sees (sign OpenParenthesis) s p s1
        → Level 0 s1 a s2 → Sees (sign Comma) s2 c s3 → Level 0 s3 b s4 → Sees (sign CloseParenthesis) s4 d r
        → Sides o s (binary o.1 o.0 a b) r

  pub data Chain : List Token → Expression → List Token → Type 0 where
    this_chain : {s s1 r : List Token} {x : Expression} {p : Place} → Sees (key This) s p s1 → Tails (this p) s1 x r → Chain s x r
    name_chain : {s s1 r : List Token} {x : Expression} {n : List ℕ × Place} → Sees name s n s1 → Tails (named n.1 n.0) s1 x r
        → Chain s x r
    call_chain : {s s1 s2 r : List Token} {x : Expression} {n : List ℕ × Place} {xs : List Expression} → Sees name s n s1
        → Args s1 xs s2 → Tails (call n.1 n.0 (expressions xs)) s2 x r → Chain s x r

  -- { Tail } behind the chain a
  pub data Tails : Expression → List Token → Expression → List Token → Type 0 where
    tails_end : {a : Expression} {s : List Token} → Tails a s a s
    tails_more : {a b x : Expression} {s s1 r : List Token} → Tail a s b s1 → Tails b s1 x r → Tails a s x r

  -- a tail of the chain a
  pub data Tail : Expression → List Token → Expression → List Token → Type 0 where
    field_tail : {a : Expression} {s s1 r : List Token} {p : Place} {n : List ℕ × Place} → Sees (sign Arrow) s p s1
        → Sees name s1 n r → Tail a s (field p a n.0) r
    method_tail : {a : Expression} {s s1 s2 r : List Token} {p : Place} {n : List ℕ × Place} {xs : List Expression}
        → Sees (sign Arrow) s p s1 → Sees name s1 n s2 → Args s2 xs r → Tail a s (method p a n.0 (expressions xs)) r
    index_tail : {a i : Expression} {s s1 s2 r : List Token} {p c : Place} → Sees (sign OpenBracket) s p s1 → Level 0 s1 i s2
        → Sees (sign CloseBracket) s2 c r → Tail a s (index p a i) r

  pub data Args : List Token → List Expression → List Token → Type 0 where
    args : {s s1 r : List Token} {xs : List Expression} {o : Place} → Sees (sign OpenParenthesis) s o s1 → Listed s1 xs r
        → Args s xs r

  -- [ Expr { "," Expr } ] ")"
  pub data Listed : List Token → List Expression → List Token → Type 0 where
    listed_none : {s r : List Token} {c : Place} → Sees (sign CloseParenthesis) s c r → Listed s [] r
    listed : {s s1 r : List Token} {x : Expression} {xs : List Expression} → Level 0 s x s1 → Further s1 xs r
        → Listed s (x ∷ xs) r

  -- { "," Expr } ")"
  pub data Further : List Token → List Expression → List Token → Type 0 where
    further_none : {s r : List Token} {c : Place} → Sees (sign CloseParenthesis) s c r → Further s [] r
    further : {s s1 s2 r : List Token} {c : Place} {x : Expression} {xs : List Expression} → Sees (sign Comma) s c s1
        → Level 0 s1 x s2 → Further s2 xs r → Further s (x ∷ xs) r

abbrev pub Expr : List Token → Expression → List Token → Type 0
Expr = Level 0

-- An expression or chain that stands in no other has at most 1,000 tokens: the next one passes the limit.
abbrev pub OuterExpression : Grammar Token Expression
OuterExpression = Short MOST_IN_EXPRESSION Expr

abbrev pub OuterChain : Grammar Token Expression
OuterChain = Short MOST_IN_EXPRESSION Chain

-- with what may follow: no token that goes on with it
abbrev pub ExpressionEnded : Grammar Token Expression
ExpressionEnded = Before (goes_on 0) OuterExpression

abbrev pub ChainEnded : Grammar Token Expression
ChainEnded = Before (goes_on unary_level) OuterChain

-- whether the last part of a chain is a call
abbrev pub is_call : Expression → Bool
is_call (call at n xs) = true
is_call (method at e n xs) = true
is_call (number at n) = false
is_call (truth at b) = false
is_call (null at) = false
is_call (this at) = false
is_call (named at n) = false
is_call (field at e n) = false
is_call (index at e i) = false
is_call (unary at o e) = false
is_call (binary at o a b) = false

-- whether a chain can be a target: its last part is a name without arguments, or an index
abbrev pub is_target : Expression → Bool
is_target (named at n) = true
is_target (field at e n) = true
is_target (index at e i) = true
is_target (call at n xs) = false
is_target (method at e n xs) = false
is_target (number at n) = false
is_target (truth at b) = false
is_target (null at) = false
is_target (this at) = false
is_target (unary at o e) = false
is_target (binary at o a b) = false
