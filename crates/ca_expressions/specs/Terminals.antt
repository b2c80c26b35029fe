-- The terminals of the grammar: which token each of them is, and what this token carries.
use Rattle.std.specs.Prelude.{ℕ, ℤ, pos, List, Bool, true, false, cond, nat_eq, nat_le, ◌||◌, Option, Some, None}
use Rattle.std.specs.Ordering.{int_eq}
use Rattle.ca_tree.specs.declared.name.Place.{Place}
use Rattle.ca_tree.specs.declared.token.Token.{Token}
use Rattle.ca_tree.specs.declared.token.Kind.{Kind}
use Rattle.ca_tree.specs.declared.token.Kind.TheVariants.{Word, Number}
use Rattle.ca_tree.specs.declared.token.Kind.TheVariants.{Key as KeyKind, Sign as SignKind}
use Rattle.ca_tree.specs.declared.token.Keyword.{Keyword}
use Rattle.ca_tree.specs.declared.token.Keyword.TheVariants.{True, False, Nullptr}
use Rattle.ca_tree.specs.declared.token.Sign.{Sign}
use Rattle.ca_tree.specs.declared.token.Sign.TheVariants.{Arrow, OpenBracket, OpenParenthesis}
use Rattle.ca_tree.specs.declared.tree.BinaryOp.{BinaryOp}
use Rattle.ca_tree.specs.declared.tree.UnaryOp.{UnaryOp}
use Rattle.ca_tree.specs.Codes.{same_key, same_sign}
use Rattle.ca_tree.specs.Operators.{level, binary_of_sign, binary_of_word, unary_of_sign}
use Rattle.ca_tree.specs.Plain.{Expression, truth, null}
use Rattle.ca_tree.specs.Plain.{number as number_tree}

-- what a token of the kind and at the place carries, if it is the key word
abbrev pub key_of : Keyword → Kind → Place → Option Place
key_of k (KeyKind w) at = cond (same_key w k) (Some at) None
key_of k other at = None

abbrev pub sign_of : Sign → Kind → Place → Option Place
sign_of k (SignKind s) at = cond (same_sign s k) (Some at) None
sign_of k other at = None

abbrev pub name_of : Kind → Place → Option (List ℕ × Place)
name_of (Word n) at = Some (n, at)
name_of other at = None

abbrev pub number_of : Kind → Place → Option (ℤ × Place)
number_of (Number n) at = Some (n, at)
number_of other at = None

abbrev pub zero_of : Kind → Place → Option Place
zero_of (Number n) at = cond (int_eq n (pos 0)) (Some at) None
zero_of other at = None

-- a token that is an expression by itself
abbrev pub literal_of_key : Keyword → Place → Option Expression
literal_of_key True at = Some (truth at true)
literal_of_key False at = Some (truth at false)
literal_of_key Nullptr at = Some (null at)
literal_of_key other at = None

abbrev pub literal_of : Kind → Place → Option Expression
literal_of (Number n) at = Some (number_tree at n)
literal_of (KeyKind w) at = literal_of_key w at
literal_of other at = None

abbrev pub with_place : {A : Type 0} → Place → Option A → Option (A × Place)
with_place at None = None
with_place at (Some a) = Some (a, at)

-- a sign that a tail begins with
abbrev pub tail_of : Kind → Place → Option Place
tail_of (SignKind s) at = cond (same_sign s Arrow || same_sign s OpenBracket) (Some at) None
tail_of other at = None

abbrev pub unary_of : Kind → Place → Option (UnaryOp × Place)
unary_of (SignKind s) at = with_place at (unary_of_sign s)
unary_of other at = None

-- the operator, if it is one of the level
abbrev pub of_level : ℕ → Option BinaryOp → Option BinaryOp
of_level k None = None
of_level k (Some o) = cond (nat_eq (level o) k) (Some o) None

abbrev pub operator_of : ℕ → Kind → Place → Option (BinaryOp × Place)
operator_of k (SignKind s) at = with_place at (of_level k (binary_of_sign s))
operator_of k other at = None

-- the operator that is written by a key word before its sides
abbrev pub word_of : Kind → Place → Option (BinaryOp × Place)
word_of (KeyKind w) at = with_place at (binary_of_word w)
word_of other at = None

-- whether a tail of a chain or the arguments of a call begin with the sign
abbrev pub is_tail_sign : Sign → Bool
is_tail_sign Arrow = true
is_tail_sign OpenBracket = true
is_tail_sign OpenParenthesis = true
is_tail_sign other = false

-- whether a sign goes on with an expression of level k: that of a binary operator by its level, and else that of a tail
abbrev pub binds : ℕ → Option BinaryOp → Bool → Bool
binds k (Some o) tail = nat_le k (level o)
binds k None tail = tail

abbrev pub goes_on_of : ℕ → Kind → Place → Option Place
goes_on_of k (SignKind s) at = cond (binds k (binary_of_sign s) (is_tail_sign s)) (Some at) None
goes_on_of k other at = None

-- a key word or a sign carries its place
abbrev pub key : Keyword → Token → Option Place
key k t = key_of k t.kind t.at

abbrev pub sign : Sign → Token → Option Place
sign s t = sign_of s t.kind t.at

-- a name carries its bytes, a number what it says, and both their places
abbrev pub name : Token → Option (List ℕ × Place)
name t = name_of t.kind t.at

abbrev pub number : Token → Option (ℤ × Place)
number t = number_of t.kind t.at

-- the number 0
abbrev pub zero : Token → Option Place
zero t = zero_of t.kind t.at

-- a literal carries its expression
abbrev pub literal : Token → Option Expression
literal t = literal_of t.kind t.at

-- an operator carries which one it is, and its place
abbrev pub unary_operator : Token → Option (UnaryOp × Place)
unary_operator t = unary_of t.kind t.at

abbrev pub operator : ℕ → Token → Option (BinaryOp × Place)
operator k t = operator_of k t.kind t.at

abbrev pub word_operator : Token → Option (BinaryOp × Place)
word_operator t = word_of t.kind t.at

-- what a tail begins with carries its place
abbrev pub tail_front : Token → Option Place
tail_front t = tail_of t.kind t.at

-- a token that goes on with an expression of level k: an operator that binds as tightly or more, a tail or arguments
abbrev pub goes_on : ℕ → Token → Option Place
goes_on k t = goes_on_of k t.kind t.at
