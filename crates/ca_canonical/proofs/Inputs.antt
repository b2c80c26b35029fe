-- The tokens of a text are names, numbers, key words and signs as they may be written.
use Prim.Native.Char.{code}
use Rattle.std.proofs.Common.{◌≡◌, ℕ, ◌<◌, ◌^◌, List, [], ◌∷◌, length, drop, Bool, true, false, refl, sym, ap, ◌∙◌, subst}
use Rattle.std.specs.Prelude.{Option, Some, None, ◌==◌, ◌&&◌, ◌||◌, cond, nat_lt, nat_le, pos, if◌then◌else◌}
use Rattle.std.specs.Char.{is_ascii_digit}
use Rattle.std.specs.List.{prefix_len, take_while}
use Rattle.std.proofs.lemmas.Bool.{leb-false}
use Rattle.std.proofs.lemmas.List.Sums.{take_while-cons}
use Rattle.ca_tree.specs.declared.name.Place.{Place}
use Rattle.ca_tree.specs.declared.token.Kind.TheVariants.{Number}
use Rattle.ca_tree.specs.declared.token.Keyword.{Keyword}
use Rattle.ca_tree.specs.declared.token.Sign.{Sign}
use Rattle.ca_tree.specs.declared.token.Token.{Token}
use Rattle.ca_lex.specs.Bytes.{is_blank, is_letter, is_name_byte, value_of}
use Rattle.ca_tree.specs.Spellings.{keyword_of, double_sign, single_sign}
use Rattle.ca_lex.specs.Pieces.{Piece, blank_of, comment_of, token_of, too_great, letter_behind, refused, piece_of, begins, kind_of_word, number_piece, slash_piece, sign_piece, longer_sign, closed_comment, close_len}
use Rattle.ca_lex.specs.Tokens.{TokensFrom, at_end, blank, comment, token}
use Rattle.ca_lex.proofs.Numbers.{Passes}
use Rattle.ca_canonical.proofs.ReadBack.{Writable}
use Rattle.ca_canonical.proofs.Terminals.{AllRead}

abbrev Fine : Piece → Type 0
Fine (token_of n k) = Writable k
Fine (blank_of n) = Unit {0}
Fine (comment_of n) = Unit {0}
Fine too_great = Unit {0}
Fine (letter_behind n) = Unit {0}
Fine refused = Unit {0}

choice : (b : Bool) (x y : Piece) → (b ≡ true → Fine x) → (b ≡ false → Fine y) → Fine (if b then x else y)
choice true x y f g = f refl
choice false x y f g = g refl

passes_first : (p : ℕ → Bool) (b : ℕ) (w : List ℕ) (t : Bool) → p b ≡ t → Passes p w → Passes p (cond t (b ∷ w) [])
passes_first p b w true e a = (e, a)
passes_first p b w false e a = tt

passes_front : (p : ℕ → Bool) (s : List ℕ) → Passes p (take_while p s)
passes_front p [] = tt
passes_front p (b ∷ s) = subst (Passes p) (sym (take_while-cons p b s)) (passes_first p b (take_while p s) (p b) refl (passes_front p s))

word_fine : (n : ℕ) (w : List ℕ) (o : Option Keyword) → keyword_of w ≡ o → begins is_letter w ≡ true → Passes is_name_byte w → Fine (token_of n (kind_of_word w o))
word_fine n w None e l a = record { letter = l; bytes = a; free = e }
word_fine n w (Some k) e l a = tt

front_letter : (b : ℕ) (s : List ℕ) → is_letter b ≡ true → begins is_letter (take_while is_name_byte (b ∷ s)) ≡ true
front_letter b s h = ap (begins is_letter) (take_while-cons is_name_byte b s) ∙ ap (λ t. begins is_letter (cond (t || is_ascii_digit b) (b ∷ take_while is_name_byte s) [])) h ∙ h

digits_fine : (t u v : Bool) (n m : ℕ) → (u ≡ false → m < 2 ^ 63) → Fine (if t then refused else if u then too_great else if v then letter_behind n else token_of n (Number (pos m)))
digits_fine true u v n m h = tt
digits_fine false true v n m h = tt
digits_fine false false true n m h = tt
digits_fine false false false n m h = (m, refl, h refl)

number_fine : (s : List ℕ) → Fine (number_piece s)
number_fine s =
    let digits = take_while is_ascii_digit s in
    digits_fine (nat_lt 1 (length digits) && begins (λ c. c == code "0") digits) (nat_le (2 ^ 63) (value_of digits)) (begins is_letter (drop (prefix_len is_ascii_digit s) s)) (length digits) (value_of digits) (leb-false (2 ^ 63) (value_of digits))

longer_fine : (double single : Option Sign) → Fine (longer_sign double single)
longer_fine (Some sign) single = tt
longer_fine None (Some sign) = tt
longer_fine None None = tt

sign_fine : (b : ℕ) (s : List ℕ) → Fine (sign_piece b s)
sign_fine b [] = longer_fine None (single_sign b)
sign_fine b (c ∷ s) = longer_fine (double_sign b c) (single_sign b)

closed_fine : (o : Option ℕ) → Fine (closed_comment o)
closed_fine None = tt
closed_fine (Some n) = tt

slash_fine : (s : List ℕ) → Fine (slash_piece s)
slash_fine [] = sign_fine (code "/") []
slash_fine (c ∷ s) = choice (c == code "/") _ _ (λ e. tt) (λ e. choice (c == code "*") _ _ (λ f. closed_fine (close_len s)) (λ f. sign_fine (code "/") (c ∷ s)))

piece_fine : (s : List ℕ) → Fine (piece_of s)
unfolding piece_of
piece_fine [] = tt
piece_fine (b ∷ s) =
    choice (is_blank b) _ _ (λ e. tt)
    (λ e. choice (is_letter b) _ _ (λ l. word_fine (prefix_len is_name_byte (b ∷ s)) (take_while is_name_byte (b ∷ s)) (keyword_of (take_while is_name_byte (b ∷ s))) refl (front_letter b s l) (passes_front is_name_byte (b ∷ s)))
    (λ l. choice (is_ascii_digit b) _ _ (λ d. number_fine (b ∷ s)) (λ d. choice (b == code "/") _ _ (λ f. slash_fine s) (λ f. sign_fine b s))))

pub text_read : {p : Place} {n : ℕ} {s : List ℕ} {ts : List Token} → TokensFrom p n s ts → AllRead ts
text_read at_end = tt
text_read (blank e d) = text_read d
text_read (comment e d) = text_read d
text_read {s = s} (token e d) = (subst Fine e (piece_fine s), text_read d)
