-- How tightly the operators bind, and by which signs and key words they are written.
use Rattle.std.specs.Prelude.{ℕ, ◌+◌, Bool, false, List, [], ◌∷◌, Option, find}
use Rattle.ca_tree.specs.declared.operators.TheConstants.{LEVELS}
use Rattle.ca_tree.specs.declared.operators.Writing.{Writing}
use Rattle.ca_tree.specs.declared.operators.Writing.TheVariants.{Between, Before}
use Rattle.ca_tree.specs.Codes.{same_key, same_sign}
use Rattle.ca_tree.specs.declared.token.Keyword.{Keyword}
use Rattle.ca_tree.specs.declared.token.Keyword.TheVariants as key
use Rattle.ca_tree.specs.declared.token.Sign.{Sign}
use Rattle.ca_tree.specs.declared.token.Sign.TheVariants as sign
use Rattle.ca_tree.specs.declared.tree.BinaryOp.{BinaryOp}
use Rattle.ca_tree.specs.declared.tree.BinaryOp.TheVariants as binary
use Rattle.ca_tree.specs.declared.tree.UnaryOp.{UnaryOp}
use Rattle.ca_tree.specs.declared.tree.UnaryOp.TheVariants as unary
use Rattle.ca_tree.specs.declared.tree.AssignOp.{AssignOp}
use Rattle.ca_tree.specs.declared.tree.AssignOp.TheVariants as assign

-- How tightly a binary operator binds: a greater level binds more tightly. One that is written before its sides binds as a
-- literal does, more tightly than unary operators.
abbrev pub level : BinaryOp → ℕ
level binary.Or = 0
level binary.And = 1
level binary.BitOr = 2
level binary.BitXor = 3
level binary.BitAnd = 4
level binary.Equal = 5
level binary.NotEqual = 5
level binary.Less = 6
level binary.Greater = 6
level binary.LessEqual = 6
level binary.GreaterEqual = 6
level binary.Plus = 7
level binary.Minus = 7
level binary.Times = 8
level binary.Divide = 8
level binary.Remainder = 8
level binary.Max = LEVELS + 1
level binary.Min = LEVELS + 1

-- a unary operator binds more tightly than each binary one between its sides
abbrev pub unary_level : ℕ
unary_level = LEVELS

-- binary operators

abbrev pub binary_operators : List BinaryOp
binary_operators =
    binary.Or ∷ binary.And ∷ binary.Equal ∷ binary.NotEqual ∷ binary.Less ∷ binary.Greater ∷ binary.LessEqual
    ∷ binary.GreaterEqual ∷ binary.Plus ∷ binary.Minus ∷ binary.Times ∷ binary.Divide ∷ binary.Remainder ∷ binary.BitAnd
    ∷ binary.BitOr ∷ binary.BitXor ∷ binary.Max ∷ binary.Min ∷ []

-- how a binary operator is written: by a sign between its sides, or by a key word before both in round brackets
abbrev pub writing : BinaryOp → Writing
writing binary.Or = Between sign.Or
writing binary.And = Between sign.And
writing binary.Equal = Between sign.Equal
writing binary.NotEqual = Between sign.NotEqual
writing binary.Less = Between sign.Less
writing binary.Greater = Between sign.Greater
writing binary.LessEqual = Between sign.LessEqual
writing binary.GreaterEqual = Between sign.GreaterEqual
writing binary.Plus = Between sign.Plus
writing binary.Minus = Between sign.Minus
writing binary.Times = Between sign.Times
writing binary.Divide = Between sign.Divide
writing binary.Remainder = Between sign.Remainder
writing binary.BitAnd = Between sign.BitAnd
writing binary.BitOr = Between sign.BitOr
writing binary.BitXor = Between sign.BitXor
writing binary.Max = Before key.Max
writing binary.Min = Before key.Min

abbrev pub writes_sign : Sign → Writing → Bool
writes_sign s (Between t) = same_sign s t
writes_sign s (Before k) = false

abbrev pub writes_word : Keyword → Writing → Bool
writes_word w (Between t) = false
writes_word w (Before k) = same_key w k

-- the binary operator that is written by the sign, and by the key word, if there is one
abbrev pub binary_of_sign : Sign → Option BinaryOp
binary_of_sign s = find (λ o. writes_sign s (writing o)) binary_operators

abbrev pub binary_of_word : Keyword → Option BinaryOp
binary_of_word w = find (λ o. writes_word w (writing o)) binary_operators

-- unary operators

abbrev pub unary_operators : List UnaryOp
unary_operators = unary.Minus ∷ unary.Not ∷ []

abbrev pub unary_sign : UnaryOp → Sign
unary_sign unary.Minus = sign.Minus
unary_sign unary.Not = sign.Not

-- the unary operator that is written by the sign, if there is one
abbrev pub unary_of_sign : Sign → Option UnaryOp
unary_of_sign s = find (λ o. same_sign s (unary_sign o)) unary_operators

-- assignments

abbrev pub assign_sign : AssignOp → Sign
assign_sign assign.Put = sign.Assign
assign_sign assign.Add = sign.PlusAssign
assign_sign assign.Sub = sign.MinusAssign
assign_sign assign.Mul = sign.TimesAssign
assign_sign assign.BitAnd = sign.BitAndAssign
assign_sign assign.BitOr = sign.BitOrAssign
assign_sign assign.BitXor = sign.BitXorAssign
