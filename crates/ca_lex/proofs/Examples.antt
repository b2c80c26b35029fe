-- Pieces, places and tokens of short texts.
use Rattle.std.proofs.Common.{◌≡◌, [], ◌∷◌, refl, arith}
use Rattle.std.specs.Prelude.{codes, pos}
use Rattle.ca_tree.specs.declared.token.Kind.TheVariants as kind
use Rattle.ca_tree.specs.declared.token.Keyword.TheVariants as key
use Rattle.ca_tree.specs.declared.token.Sign.TheVariants as sign
use Rattle.ca_lex.specs.Places.{advance, start}
use Rattle.ca_lex.specs.Pieces.{piece_of, comment_of, token_of, too_great, letter_behind, refused}
use Rattle.ca_lex.specs.Tokens.{Tokens, at_end, blank, comment, token}
use Rattle.ca_lex.specs.Faults as fault
use Rattle.ca_lex.specs.Faults.{LexFault, bad_byte, wide_number}

key_word : piece_of (codes "class{") ≡ token_of 5 (kind.Key key.Class)
unfolding piece_of
key_word = refl

longer_than_key_word : piece_of (codes "classes ") ≡ token_of 7 (kind.Word (codes "classes"))
unfolding piece_of
longer_than_key_word = refl

arrow : piece_of (codes "->next") ≡ token_of 2 (kind.Sign sign.Arrow)
unfolding piece_of
arrow = refl

minus : piece_of (codes "- >") ≡ token_of 1 (kind.Sign sign.Minus)
unfolding piece_of
minus = refl

equal : piece_of (codes "===") ≡ token_of 2 (kind.Sign sign.Equal)
unfolding piece_of
equal = refl

-- The longest sign is taken from the left: signs of one byte come only where no sign of two begins.
lone_ampersand : piece_of (codes "& &") ≡ token_of 1 (kind.Sign sign.BitAnd)
unfolding piece_of
lone_ampersand = refl

lone_bar : piece_of (codes "|x") ≡ token_of 1 (kind.Sign sign.BitOr)
unfolding piece_of
lone_bar = refl

lone_caret : piece_of (codes "^^") ≡ token_of 1 (kind.Sign sign.BitXor)
unfolding piece_of
lone_caret = refl

three_ampersands : piece_of (codes "&&&") ≡ token_of 2 (kind.Sign sign.And)
unfolding piece_of
three_ampersands = refl

and_before_assign : piece_of (codes "&&=") ≡ token_of 2 (kind.Sign sign.And)
unfolding piece_of
and_before_assign = refl

and_assign : piece_of (codes "&=") ≡ token_of 2 (kind.Sign sign.BitAndAssign)
unfolding piece_of
and_assign = refl

bars : piece_of (codes "||") ≡ token_of 2 (kind.Sign sign.Or)
unfolding piece_of
bars = refl

or_assign : piece_of (codes "|=") ≡ token_of 2 (kind.Sign sign.BitOrAssign)
unfolding piece_of
or_assign = refl

xor_assign : piece_of (codes "^=") ≡ token_of 2 (kind.Sign sign.BitXorAssign)
unfolding piece_of
xor_assign = refl

operator_word : piece_of (codes "max(") ≡ token_of 3 (kind.Key key.Max)
unfolding piece_of
operator_word = refl

longer_than_operator_word : piece_of (codes "min_of") ≡ token_of 6 (kind.Word (codes "min_of"))
unfolding piece_of
longer_than_operator_word = refl

zero_alone : piece_of (codes "0;") ≡ token_of 1 (kind.Number (pos 0))
unfolding piece_of
zero_alone = refl

needless_zeros : piece_of (codes "007") ≡ refused
unfolding piece_of
needless_zeros = refl

letter_behind_digits : piece_of (codes "12a") ≡ letter_behind 2
unfolding piece_of
letter_behind_digits = refl

greatest_number : piece_of (codes "9223372036854775807") ≡ token_of 19 (kind.Number (pos 9223372036854775807))
unfolding piece_of
greatest_number = refl

too_great_number : piece_of (codes "9223372036854775808a") ≡ too_great
unfolding piece_of
too_great_number = refl

line_comment : piece_of (codes "// a\nb") ≡ comment_of 4
unfolding piece_of
line_comment = refl

closed : piece_of (codes "/* * /**/b") ≡ comment_of 9
unfolding piece_of
closed = refl

closes_behind_its_start : piece_of (codes "/*/") ≡ refused
unfolding piece_of
closes_behind_its_start = refl

second_line : advance start (codes "a\nbc") ≡ record { line = 2; column = 3 }
second_line = refl

two_tokens : Tokens (codes "x//\n/**/ +")
    (record { kind = kind.Word (codes "x"); at = record { line = 1; column = 1 }; start = 0; len = 1 }
    ∷ record { kind = kind.Sign sign.Plus; at = record { line = 2; column = 6 }; start = 9; len = 1 }
    ∷ [])
unfolding piece_of
two_tokens = token refl (comment refl (blank refl (comment refl (blank refl (token refl at_end)))))

three_ampersands_are_two_signs : Tokens (codes "&&&")
    (record { kind = kind.Sign sign.And; at = record { line = 1; column = 1 }; start = 0; len = 2 }
    ∷ record { kind = kind.Sign sign.BitAnd; at = record { line = 1; column = 3 }; start = 2; len = 1 }
    ∷ [])
unfolding piece_of
three_ampersands_are_two_signs = token refl (token refl at_end)

letter_refused : LexFault (codes ";\n 12a") (record { line = 2; column = 4 }) bad_byte
unfolding piece_of
letter_refused = fault.token refl (omega arith) (fault.blank refl (fault.blank refl (fault.letter refl (omega arith))))

number_refused : LexFault (codes "\t9223372036854775808a") (record { line = 1; column = 2 }) wide_number
unfolding piece_of
number_refused = fault.blank refl (fault.wide refl)

open_comment_refused : LexFault (codes "/*/") (record { line = 1; column = 1 }) bad_byte
unfolding piece_of
open_comment_refused = fault.bad refl
