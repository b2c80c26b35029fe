-- Key words, signs and binary operators are told by their numbers.
use denote.Enum.Declared.{tag_of}
use Rattle.std.specs.Prelude.{ℕ, Bool, nat_eq}
use Rattle.ca_tree.specs.declared.token.Keyword.{Keyword}
use Rattle.ca_tree.specs.contracts.token.Keyword.{the_type as keyword_type}
use Rattle.ca_tree.specs.declared.token.Sign.{Sign}
use Rattle.ca_tree.specs.contracts.token.Sign.{the_type as sign_type}
use Rattle.ca_tree.specs.declared.tree.BinaryOp.{BinaryOp}
use Rattle.ca_tree.specs.contracts.tree.BinaryOp.{the_type as binary_type}

-- each of them has a number of its own
abbrev pub key_code : Keyword → ℕ
key_code k = tag_of keyword_type k

abbrev pub sign_code : Sign → ℕ
sign_code s = tag_of sign_type s

abbrev pub binary_code : BinaryOp → ℕ
binary_code o = tag_of binary_type o

abbrev pub same_key : Keyword → Keyword → Bool
same_key j k = nat_eq (key_code j) (key_code k)

abbrev pub same_sign : Sign → Sign → Bool
same_sign s t = nat_eq (sign_code s) (sign_code t)

abbrev pub same_binary : BinaryOp → BinaryOp → Bool
same_binary o s = nat_eq (binary_code o) (binary_code s)
