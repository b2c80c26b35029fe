-- Which calls follow another: those directly behind a call of the same list that have an equal receiver.
use Rattle.std.specs.Prelude.{Bool, true, false, ◌&&◌, Option, Some, None}
use Rattle.std.specs.Ordering.{int_eq}
use Rattle.std.specs.Str.{bytes_eq}
use Rattle.ca_tree.specs.Codes.{same_sign, same_binary}
use Rattle.ca_tree.specs.Operators.{unary_sign}
use Rattle.ca_tree.specs.Plain.{Expression, Expressions, Statement, call_statement, number, truth, null, this, named, call, field, method, index, unary, binary, no_expressions, expression_and}
use Rattle.ca_symbolic.specs.Same.{same_truth}

-- Expressions are equal but for their places.
abbrev mutual
  pub same_expression : Expression → Expression → Bool
  same_expression (number at m) (number at2 n) = int_eq m n
  same_expression (truth at a) (truth at2 b) = same_truth a b
  same_expression (null at) (null at2) = true
  same_expression (this at) (this at2) = true
  same_expression (named at m) (named at2 n) = bytes_eq m n
  same_expression (call at m xs) (call at2 n ys) = bytes_eq m n && same_expressions xs ys
  same_expression (field at d m) (field at2 e n) = bytes_eq m n && same_expression d e
  same_expression (method at d m xs) (method at2 e n ys) = bytes_eq m n && (same_expression d e && same_expressions xs ys)
  same_expression (index at d i) (index at2 e j) = same_expression d e && same_expression i j
  same_expression (unary at o d) (unary at2 s e) = same_sign (unary_sign o) (unary_sign s) && same_expression d e
  same_expression (binary at o a b) (binary at2 s d e) = same_binary o s && (same_expression a d && same_expression b e)
  same_expression _ _ = false

  pub same_expressions : Expressions → Expressions → Bool
  same_expressions no_expressions no_expressions = true
  same_expressions (expression_and d ds) (expression_and e es) = same_expression d e && same_expressions ds es
  same_expressions _ _ = false

-- the receiver that a call names
abbrev pub receiver_of : Expression → Option Expression
receiver_of (method at e n es) = Some e
receiver_of other = None

abbrev pub is_this : Expression → Bool
is_this (this at) = true
is_this other = false

-- a bare call names none, and has the receiver `this`
abbrev pub same_receivers : Option Expression → Option Expression → Bool
same_receivers None None = true
same_receivers None (Some e) = is_this e
same_receivers (Some d) None = is_this d
same_receivers (Some d) (Some e) = same_expression d e

abbrev pub same_receiver : Expression → Expression → Bool
same_receiver a b = same_receivers (receiver_of a) (receiver_of b)

-- a call follows the statement in front of its own
abbrev pub follows : Option Statement → Expression → Bool
follows (Some (call_statement at e)) other = same_receiver e other
follows front other = false
