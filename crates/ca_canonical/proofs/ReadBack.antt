-- A token that may be written is read back where a space or a line feed stands behind it.
use Prim.Native.Char.{code}
use Rattle.std.proofs.Common.{◌≡◌, ℕ, ◌<◌, ◌^◌, List, [], ◌∷◌, ◌++◌, length, Bool, true, false, refl, ap, ◌∙◌}
use Rattle.std.specs.Prelude.{Option, None, pos, if◌then◌else◌}
use Rattle.std.specs.Char.{is_ascii_digit}
use Rattle.std.specs.List.{prefix_len}
use Rattle.std.proofs.Math.Dec.{eqb}
use Rattle.std.proofs.lemmas.Bool.{eqb-true}
use Rattle.ca_tree.specs.declared.token.Kind.{Kind}
use Rattle.ca_tree.specs.declared.token.Kind.TheVariants.{Word, Number, Key, Sign}
use Rattle.ca_tree.specs.declared.token.Keyword.{Keyword}
use Rattle.ca_tree.specs.declared.token.Keyword.TheVariants as key
use Rattle.ca_tree.specs.declared.token.Sign.{Sign as TheSign}
use Rattle.ca_tree.specs.declared.token.Sign.TheVariants as sign
use Rattle.ca_tree.specs.Spellings.{keyword_of, keyword_text, sign_text}
use Rattle.ca_lex.specs.Bytes.{is_blank, is_letter, is_name_byte}
use Rattle.ca_lex.specs.Pieces.{Piece, token_of, piece_of, begins, kind_of_word, word_piece}
use Rattle.ca_lex.proofs.Numbers.{Passes, passes_len, passes_front, number_back}
use Rattle.ca_canonical.specs.Texts.{kind_text}

pub record IsName (w : List ℕ) : Type 0 where
  pub letter : begins is_letter w ≡ true
  pub bytes : Passes is_name_byte w
  pub free : keyword_of w ≡ None

-- what a token of a text is: a name, a number that a text may spell, a key word or a sign
abbrev pub Writable : Kind → Type 0
Writable (Word w) = IsName w
Writable (Number n) = (m : ℕ) × (n ≡ pos m) × (m < 2 ^ 63)
Writable (Key k) = Unit {0}
Writable (Sign s) = Unit {0}

abbrev pub gap : Bool → ℕ
gap true = code "\n"
gap false = code " "

no_name_byte : (line : Bool) → is_name_byte (gap line) ≡ false
no_name_byte true = refl
no_name_byte false = refl

no_digit : (line : Bool) → is_ascii_digit (gap line) ≡ false
no_digit true = refl
no_digit false = refl

no_letter : (line : Bool) → is_letter (gap line) ≡ false
no_letter true = refl
no_letter false = refl

-- names

other : (b c : ℕ) → is_letter b ≡ true → is_letter c ≡ false → eqb b c ≡ false
other b c h n = at (eqb b c) refl
  where
    at : (t : Bool) → eqb b c ≡ t → t ≡ false
    at false e = refl
    at true e = let same : is_letter b ≡ is_letter c = ap is_letter (eqb-true b c e) in cc

letter_no_blank : (b : ℕ) → is_letter b ≡ true → is_blank b ≡ false
letter_no_blank b h = rw (other b 32 h refl, other b 9 h refl, other b 13 h refl, other b 10 h refl) refl

if_letter : (t u : Bool) (p q r : Piece) → t ≡ false → u ≡ true → (if t then p else if u then q else r) ≡ q
if_letter true u p q r e f = cc
if_letter false true p q r e f = refl
if_letter false false p q r e f = cc

word_back : (w : List ℕ) (line : Bool) (rest : List ℕ) (k : Option Keyword) → Passes is_name_byte w → keyword_of w ≡ k → word_piece (w ++ gap line ∷ rest) ≡ token_of (length w) (kind_of_word w k)
word_back w line rest k a e =
    ap (λ v. token_of (prefix_len is_name_byte (w ++ gap line ∷ rest)) (kind_of_word v (keyword_of v))) (passes_front is_name_byte w (gap line) rest a (no_name_byte line))
    ∙ ap (λ n. token_of n (kind_of_word w (keyword_of w))) (passes_len is_name_byte w (gap line) rest a (no_name_byte line))
    ∙ ap (λ o. token_of (length w) (kind_of_word w o)) e

name_back : (w : List ℕ) (line : Bool) (rest : List ℕ) → IsName w → piece_of (w ++ gap line ∷ rest) ≡ token_of (length w) (Word w)
unfolding piece_of
name_back [] line rest h = let l = h.letter in cc
name_back (b ∷ w) line rest h =
    if_letter (is_blank b) (is_letter b) _ _ _ (letter_no_blank b h.letter) h.letter ∙ word_back (b ∷ w) line rest None h.bytes h.free

-- key words and signs

key_back : (k : Keyword) (line : Bool) (rest : List ℕ) → piece_of (keyword_text k ++ gap line ∷ rest) ≡ token_of (length (keyword_text k)) (Key k)
unfolding piece_of
key_back key.Class true rest = refl
key_back key.Class false rest = refl
key_back other true rest = refl
key_back other false rest = refl

sign_back : (s : TheSign) (line : Bool) (rest : List ℕ) → piece_of (sign_text s ++ gap line ∷ rest) ≡ token_of (length (sign_text s)) (Sign s)
unfolding piece_of
sign_back sign.OpenBrace true rest = refl
sign_back sign.OpenBrace false rest = refl
sign_back other true rest = refl
sign_back other false rest = refl

pub read_back : (k : Kind) (line : Bool) (rest : List ℕ) → Writable k → piece_of (kind_text k ++ gap line ∷ rest) ≡ token_of (length (kind_text k)) k
read_back (Word w) line rest h = name_back w line rest h
read_back (Number n) line rest h = rw h.1 (number_back h.0 (gap line) rest h.2 (no_digit line) (no_letter line))
read_back (Key k) line rest h = key_back k line rest
read_back (Sign s) line rest h = sign_back s line rest
