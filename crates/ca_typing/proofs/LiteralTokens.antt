-- Each number among the tokens of a text fits the type `long`, and each word is a name.
use Prim.Native.Char.{code}
use Rattle.std.proofs.Common.{◌≡◌, ℕ, ◌^◌, List, [], ◌∷◌, length, drop, Bool, true, false, refl, sym, subst, cond}
use Rattle.std.specs.Prelude.{Option, Some, None, ◌==◌, ◌&&◌, nat_lt, nat_le, pos, if◌then◌else◌, FitsSigned}
use Rattle.std.specs.Int.{w64}
use Rattle.std.specs.Char.{is_ascii_digit}
use Rattle.std.specs.List.{AllByRecursion, prefix_len, take_while}
use Rattle.std.proofs.lemmas.List.Sums.{take_while-cons}
use Rattle.std.proofs.lemmas.Bool.{leb-false}
use Rattle.std.proofs.lemmas.Int.{fits_signed_from_abs}
use Rattle.ca_tree.specs.declared.name.Place.{Place}
use Rattle.ca_tree.specs.declared.token.Keyword.{Keyword}
use Rattle.ca_tree.specs.declared.token.Kind.TheVariants.{Number}
use Rattle.ca_tree.specs.declared.token.Sign.{Sign}
use Rattle.ca_tree.specs.declared.token.Token.{Token}
use Rattle.ca_lex.specs.Bytes.{is_blank, is_letter, is_name_byte, value_of}
use Rattle.ca_tree.specs.Spellings.{keyword_of, double_sign, single_sign}
use Rattle.ca_lex.specs.Pieces.{Piece, blank_of, comment_of, token_of, too_great, letter_behind, refused, piece_of, begins, kind_of_word, number_piece, slash_piece, sign_piece, longer_sign, closed_comment, close_len}
use Rattle.ca_lex.specs.Tokens.{TokensFrom, at_end, blank, comment, token}
use Rattle.ca_typing.specs.Names.{IsName}
use Rattle.ca_typing.proofs.Fits.{KindFits, TokensFit}

abbrev PieceFits : Piece → Type 0
PieceFits (token_of n kind) = KindFits kind
PieceFits (blank_of n) = Unit {0}
PieceFits (comment_of n) = Unit {0}
PieceFits too_great = Unit {0}
PieceFits (letter_behind n) = Unit {0}
PieceFits refused = Unit {0}

choice : (b : Bool) (x y : Piece) → PieceFits x → PieceFits y → PieceFits (if b then x else y)
choice true x y f g = f
choice false x y f g = g

-- what is taken while it passes passes
all_taken : (p : ℕ → Bool) (xs : List ℕ) → AllByRecursion (λ x. p x ≡ true) (take_while p xs)
all_taken p [] = tt
all_taken p (x ∷ xs) = subst (AllByRecursion (λ y. p y ≡ true)) (sym (take_while-cons p x xs)) (from (all_taken p xs) (p x) refl)
  where
    from : AllByRecursion (λ y. p y ≡ true) (take_while p xs) → (b : Bool) → p x ≡ b → AllByRecursion (λ y. p y ≡ true) (cond b (x ∷ take_while p xs) [])
    from rest true e = (e, rest)
    from rest false e = tt

word_fits : (n : ℕ) (word : List ℕ) (k : Option Keyword) → IsName word → PieceFits (token_of n (kind_of_word word k))
word_fits n word None h = h
word_fits n word (Some k) h = tt

below_fits : (v : ℕ) → nat_le (2 ^ 63) v ≡ false → FitsSigned w64 (pos v)
below_fits v h = fits_signed_from_abs w64 (pos v) (leb-false (2 ^ 63) v h)

digits_fit : (t u v : Bool) (n m : ℕ) → (u ≡ false → FitsSigned w64 (pos m)) → PieceFits (if t then refused else if u then too_great else if v then letter_behind n else token_of n (Number (pos m)))
digits_fit true u v n m h = tt
digits_fit false true v n m h = tt
digits_fit false false true n m h = tt
digits_fit false false false n m h = h refl

number_fits : (s : List ℕ) → PieceFits (number_piece s)
number_fits s =
    let digits = take_while is_ascii_digit s in
    digits_fit (nat_lt 1 (length digits) && begins (λ c. c == code "0") digits) (nat_le (2 ^ 63) (value_of digits)) (begins is_letter (drop (prefix_len is_ascii_digit s) s)) (length digits) (value_of digits) (below_fits (value_of digits))

longer_fits : (double single : Option Sign) → PieceFits (longer_sign double single)
longer_fits (Some sign) single = tt
longer_fits None (Some sign) = tt
longer_fits None None = tt

sign_fits : (b : ℕ) (s : List ℕ) → PieceFits (sign_piece b s)
sign_fits b [] = longer_fits None (single_sign b)
sign_fits b (c ∷ s) = longer_fits (double_sign b c) (single_sign b)

closed_fits : (o : Option ℕ) → PieceFits (closed_comment o)
closed_fits None = tt
closed_fits (Some n) = tt

slash_fits : (s : List ℕ) → PieceFits (slash_piece s)
slash_fits s = choice (begins (λ b. b == code "/") s) _ _ tt (choice (begins (λ b. b == code "*") s) _ _ (closed_fits (close_len (drop 1 s))) (sign_fits (code "/") s))

piece_fits : (s : List ℕ) → PieceFits (piece_of s)
unfolding piece_of
piece_fits [] = tt
piece_fits (b ∷ s) =
    choice (is_blank b) _ _ tt
    (choice (is_letter b) _ _ (word_fits (prefix_len is_name_byte (b ∷ s)) (take_while is_name_byte (b ∷ s)) (keyword_of (take_while is_name_byte (b ∷ s))) (all_taken is_name_byte (b ∷ s)))
    (choice (is_ascii_digit b) _ _ (number_fits (b ∷ s))
    (choice (b == code "/") _ _ (slash_fits s) (sign_fits b s))))

pub tokens_fit : {p : Place} {n : ℕ} {s : List ℕ} {ts : List Token} → TokensFrom p n s ts → TokensFit ts
tokens_fit at_end = tt
tokens_fit (blank e d) = tokens_fit d
tokens_fit (comment e d) = tokens_fit d
tokens_fit {s = s} (token e d) = (subst PieceFits e (piece_fits s), tokens_fit d)
