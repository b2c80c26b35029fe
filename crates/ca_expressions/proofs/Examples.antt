-- Small expressions and their trees.
use Rattle.std.proofs.Common.{◌≡◌, ℕ, zero, suc, ◌+◌, pos, List, [], ◌∷◌, true, Some, None, refl, arith}
use Rattle.ca_descent.specs.Exact.{sees}
use Rattle.ca_tree.specs.declared.name.Place.{Place}
use Rattle.ca_tree.specs.declared.token.Token.{Token}
use Rattle.ca_tree.specs.declared.token.Kind.TheVariants.{Word, Number}
use Rattle.ca_tree.specs.declared.token.Kind.TheVariants.{Key as KeyKind, Sign as SignKind}
use Rattle.ca_tree.specs.declared.token.Keyword.{Keyword}
use Rattle.ca_tree.specs.declared.token.Keyword.TheVariants.{True, Max}
use Rattle.ca_tree.specs.declared.token.Sign.{Sign}
use Rattle.ca_tree.specs.declared.token.Sign.TheVariants.{Minus, Less, And, BitAnd, BitOr, BitXor, Comma, Arrow, OpenParenthesis, CloseParenthesis}
use Rattle.ca_tree.specs.declared.tree.BinaryOp.TheVariants.{Minus as MinusOp, Less as LessOp, And as AndOp, BitAnd as BitAndOp, BitOr as BitOrOp, BitXor as BitXorOp, Max as MaxOp}
use Rattle.ca_tree.specs.declared.tree.UnaryOp.TheVariants.{Minus as MinusSign}
use Rattle.ca_tree.specs.declared.operators.TheConstants.{LEVELS}
use Rattle.ca_tree.specs.Operators.{unary_level}
use Rattle.ca_tree.specs.Plain.{Expression, truth, named, method, unary, binary, no_expressions}
use Rattle.ca_tree.specs.Plain.{number as number_tree}
use Rattle.ca_expressions.specs.Terminals.{literal, operator, goes_on}
use Rattle.ca_expressions.specs.Grammar.{Level, operands, one_operand, operands_end, operands_more, unary_first, unary_last, Primary, a_literal, a_chain, by_word, sides, Chain, name_chain, tails_end, tails_more, method_tail, args, listed_none, is_call, is_target}

-- tokens of line 1
abbrev place : ℕ → Place
place n = record { line = 1; column = n }

abbrev name : ℕ → ℕ → Token
name byte n = record { kind = Word (byte ∷ []); at = place n; start = 0; len = 0 }

abbrev one : ℕ → Token
one n = record { kind = Number (pos 1); at = place n; start = 0; len = 0 }

abbrev word : Keyword → ℕ → Token
word w n = record { kind = KeyKind w; at = place n; start = 0; len = 0 }

abbrev mark : Sign → ℕ → Token
mark s n = record { kind = SignKind s; at = place n; start = 0; len = 0 }

-- the table: `-` binds at level 7, `<` at 6, and `->` goes on with everything
minus_binds : operator 7 (mark Minus 2) ≡ Some (MinusOp, place 2)
minus_binds = refl

less_is_weaker : (operator 6 (mark Less 2) ≡ Some (LessOp, place 2)) × (goes_on 7 (mark Less 2) ≡ None)
less_is_weaker = (refl, refl)

arrow_goes_on : goes_on unary_level (mark Arrow 2) ≡ Some (place 2)
arrow_goes_on = refl

true_is_literal : literal (word True 1) ≡ Some (truth (place 1) true)
true_is_literal = refl

-- a: an operand of each level, where d more stand above
abbrev a_name_tree : ℕ → Expression
a_name_tree n = named (place n) (97 ∷ [])

operand : (d k : ℕ) → k + d ≡ LEVELS → (n : ℕ) (r : List Token) → Level k (name 97 n ∷ r) (a_name_tree n) r
operand zero k h n r = one_operand (omega (arith, h)) (unary_last (a_chain (name_chain (sees refl) tails_end)))
operand (suc d) k h n r = operands (omega (arith, h)) (operand d (k + 1) (omega (arith, h)) n r) operands_end

-- a - a - a: to the left, and each node stands at its operator
differences : Level 7 (name 97 1 ∷ mark Minus 3 ∷ name 97 5 ∷ mark Minus 7 ∷ name 97 9 ∷ [])
    (binary (place 7) MinusOp (binary (place 3) MinusOp (a_name_tree 1) (a_name_tree 5)) (a_name_tree 9)) []
differences = operands (omega arith) (operand 1 8 refl 1 _)
    (operands_more (sees refl) (operand 1 8 refl 5 _) (operands_more (sees refl) (operand 1 8 refl 9 _) operands_end))

-- a | a & a: `&` binds more tightly, and `|` does so than `&&`
bits : Level 2 (name 97 1 ∷ mark BitOr 3 ∷ name 97 5 ∷ mark BitAnd 7 ∷ name 97 9 ∷ [])
    (binary (place 3) BitOrOp (a_name_tree 1) (binary (place 7) BitAndOp (a_name_tree 5) (a_name_tree 9))) []
bits = operands (omega arith) (operand 6 3 refl 1 _)
    (operands_more (sees refl) (operands (omega arith) (operands (omega arith) (operand 4 5 refl 5 _)
    (operands_more (sees refl) (operand 4 5 refl 9 _) operands_end)) operands_end) operands_end)

bits_bind : (operator 1 (mark And 2) ≡ Some (AndOp, place 2)) × (goes_on 2 (mark And 2) ≡ None) × (operator 3 (mark BitXor 2) ≡ Some (BitXorOp, place 2))
bits_bind = (refl, refl, refl)

-- max(a, a): the node stands at its key word
greater : Primary (word Max 1 ∷ mark OpenParenthesis 4 ∷ name 97 5 ∷ mark Comma 6 ∷ name 97 8 ∷ mark CloseParenthesis 9 ∷ [])
    (binary (place 1) MaxOp (a_name_tree 5) (a_name_tree 8)) []
greater = by_word (sees refl) (sides (sees refl) (operand LEVELS 0 refl 5 _) (sees refl) (operand LEVELS 0 refl 8 _) (sees refl))

-- -1: a unary node round a literal
negated : Level unary_level (mark Minus 1 ∷ one 2 ∷ []) (unary (place 1) MinusSign (number_tree (place 2) (pos 1))) []
negated = one_operand (omega arith) (unary_first (sees refl) (unary_last (a_literal (sees refl))))

-- a->b(): a call of a method, and no target
called : Chain (name 97 1 ∷ mark Arrow 2 ∷ name 98 4 ∷ mark OpenParenthesis 5 ∷ mark CloseParenthesis 6 ∷ [])
    (method (place 2) (a_name_tree 1) (98 ∷ []) no_expressions) []
called = name_chain (sees refl) (tails_more (method_tail (sees refl) (sees refl) (args (sees refl) (listed_none (sees refl)))) tails_end)

shape : (is_call (method (place 2) (a_name_tree 1) (98 ∷ []) no_expressions) ≡ true) × (is_target (a_name_tree 1) ≡ true)
shape = (refl, refl)
