-- What the tables of signs and operators say back.
use denote.Enum.Bare.{tag_one}
use Rattle.std.proofs.Common.{◌≡◌, ◌+◌, ◌<◌, true, refl, arith}
use Rattle.std.specs.Prelude.{Some}
use Rattle.std.proofs.lemmas.Bool.{eqb-true}
use Rattle.ca_tree.specs.declared.operators.TheConstants.{LEVELS}
use Rattle.ca_tree.specs.declared.token.Keyword.{Keyword}
use Rattle.ca_tree.specs.contracts.token.Keyword.{the_type as keyword_type}
use Rattle.ca_tree.specs.declared.token.Sign.{Sign}
use Rattle.ca_tree.specs.contracts.token.Sign.{the_type as sign_type}
use Rattle.ca_tree.specs.declared.tree.BinaryOp.{BinaryOp}
use Rattle.ca_tree.specs.declared.tree.BinaryOp.TheVariants.{Or}
use Rattle.ca_tree.specs.contracts.tree.BinaryOp.{the_type as binary_type}
use Rattle.ca_tree.specs.declared.tree.UnaryOp.{UnaryOp}
use Rattle.ca_tree.specs.declared.tree.UnaryOp.TheVariants.{Minus}
use Rattle.ca_tree.specs.declared.operators.Writing.{Writing}
use Rattle.ca_tree.specs.declared.operators.Writing.TheVariants.{Between, Before}
use Rattle.ca_tree.specs.Codes.{key_code, sign_code, binary_code, same_key, same_sign, same_binary}
use Rattle.ca_tree.specs.Operators.{level, writing, binary_of_sign, binary_of_word, unary_sign, unary_of_sign}

-- one number, one key word, sign or operator
pub is_key : (j k : Keyword) → same_key j k ≡ true → j ≡ k
is_key j k h = tag_one keyword_type tt j k (eqb-true (key_code j) (key_code k) h)

pub is_sign : (s t : Sign) → same_sign s t ≡ true → s ≡ t
is_sign s t h = tag_one sign_type tt s t (eqb-true (sign_code s) (sign_code t) h)

pub is_binary : (o s : BinaryOp) → same_binary o s ≡ true → o ≡ s
is_binary o s h = tag_one binary_type tt o s (eqb-true (binary_code o) (binary_code s) h)

-- each operator is written by a sign or a key word that writes no other
abbrev pub IsBack : BinaryOp → Writing → Type 0
IsBack o (Between s) = binary_of_sign s ≡ Some o
IsBack o (Before k) = binary_of_word k ≡ Some o

pub binary_back : (o : BinaryOp) → IsBack o (writing o)
binary_back Or = refl
binary_back other = refl

pub unary_back : (o : UnaryOp) → unary_of_sign (unary_sign o) ≡ Some o
unary_back Minus = refl
unary_back other = refl

-- each binary operator between its sides is of a level, and one before them binds as a literal does
abbrev pub IsBelow : BinaryOp → Writing → Type 0
IsBelow o (Between s) = level o < LEVELS
IsBelow o (Before k) = level o ≡ LEVELS + 1

pub level_below : (o : BinaryOp) → IsBelow o (writing o)
level_below Or = omega arith
level_below other = omega arith
