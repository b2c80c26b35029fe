-- What stands in front of a list of bytes.
use Prim.Native.Char.{code}
use Rattle.std.specs.Prelude.{ℕ, ◌+◌, ◌^◌, List, [], ◌∷◌, length, drop, Bool, false, ◌&&◌, ◌==◌, nat_lt, nat_le, if◌then◌else◌, Option, Some, None, option_map, pos}
use Rattle.std.specs.List.{prefix_len, take_while}
use Rattle.std.specs.Char.{is_ascii_digit}
use Rattle.ca_tree.specs.declared.token.Keyword.{Keyword}
use Rattle.ca_tree.specs.declared.token.Sign.{Sign as TheSign}
use Rattle.ca_tree.specs.declared.token.Kind.{Kind}
use Rattle.ca_tree.specs.declared.token.Kind.TheVariants.{Word, Number, Key, Sign}
use Rattle.ca_lex.specs.Bytes.{is_blank, is_letter, is_name_byte, is_no_line_feed, value_of}
use Rattle.ca_tree.specs.Spellings.{keyword_of, double_sign, single_sign}

-- A blank, a comment or a token, with the number of its bytes, or else what may not stand there: a number that is too
-- great, so many digits with a letter directly behind them, or anything else.
pub data Piece : Type 0 where
  blank_of : ℕ → Piece
  comment_of : ℕ → Piece
  token_of : ℕ → Kind → Piece
  too_great : Piece
  letter_behind : ℕ → Piece
  refused : Piece

-- whether there is a first byte, and it passes
abbrev pub begins : (ℕ → Bool) → List ℕ → Bool
begins p [] = false
begins p (b ∷ s) = p b

-- a key word, and else a name
abbrev pub kind_of_word : List ℕ → Option Keyword → Kind
kind_of_word word None = Word word
kind_of_word word (Some keyword) = Key keyword

-- letters and digits, as many as there are
abbrev pub word_piece : List ℕ → Piece
word_piece s = token_of (prefix_len is_name_byte s) (kind_of_word (take_while is_name_byte s) (keyword_of (take_while is_name_byte s)))

-- A number has no needless 0 in front, is below 2 ^ 63, and no letter follows it: rest is what stands behind the digits.
abbrev pub digits_piece : List ℕ → List ℕ → Piece
digits_piece digits rest =
    if nat_lt 1 (length digits) && begins (λ b. b == code "0") digits then refused
    else if nat_le (2 ^ 63) (value_of digits) then too_great
    else if begins is_letter rest then letter_behind (length digits)
    else token_of (length digits) (Number (pos (value_of digits)))

-- digits, as many as there are
abbrev pub number_piece : List ℕ → Piece
number_piece s = digits_piece (take_while is_ascii_digit s) (drop (prefix_len is_ascii_digit s) s)

-- the sign of two bytes if there is one, and else that of one
abbrev pub longer_sign : Option TheSign → Option TheSign → Piece
longer_sign (Some sign) single = token_of 2 (Sign sign)
longer_sign None (Some sign) = token_of 1 (Sign sign)
longer_sign None None = refused

-- the sign of the byte a and the first byte of s
abbrev pub sign_with : ℕ → List ℕ → Option TheSign
sign_with a [] = None
sign_with a (b ∷ s) = double_sign a b

-- the longest sign that begins with b, where s follows it
abbrev pub sign_piece : ℕ → List ℕ → Piece
sign_piece b s = longer_sign (sign_with b s) (single_sign b)

-- whether the two bytes are `*/`
abbrev pub closes : ℕ → ℕ → Bool
closes a b = a == code "*" && b == code "/"

-- how many bytes there are through the first `*/`
abbrev pub close_len : List ℕ → Option ℕ
close_len [] = None
close_len (b ∷ s) = if begins (closes b) s then Some 2 else option_map (λ n. n + 1) (close_len s)

-- a comment of so many bytes behind its `/*`
abbrev pub closed_comment : Option ℕ → Piece
closed_comment None = refused
closed_comment (Some n) = comment_of (n + 2)

-- What begins with `/`, where s follows it: a comment up to the line feed or the end, one up to the first `*/` behind
-- its `/*`, or a sign.
abbrev pub slash_piece : List ℕ → Piece
slash_piece s =
    if begins (λ b. b == code "/") s then comment_of (prefix_len is_no_line_feed s + 1)
    else if begins (λ b. b == code "*") s then closed_comment (close_len (drop 1 s))
    else sign_piece (code "/") s

-- what stands in front: a blank, a comment, the longest token, or what may not
unfoldable pub piece_of : List ℕ → Piece
piece_of [] = refused
piece_of (b ∷ s) =
    if is_blank b then blank_of 1
    else if is_letter b then word_piece (b ∷ s)
    else if is_ascii_digit b then number_piece (b ∷ s)
    else if b == code "/" then slash_piece s
    else sign_piece b s
