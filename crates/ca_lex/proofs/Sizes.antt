-- Each piece takes at least one byte, and at most those that there are.
use Prim.Native.Char.{code}
use Rattle.std.proofs.Common.{◌≡◌, ℕ, ◌+◌, ◌<◌, ◌≤◌, ◌^◌, List, [], ◌∷◌, length, drop, Bool, true, false, refl, sym, ap, subst, arith}
use Rattle.std.specs.Prelude.{Option, Some, None, IfSome, ◌==◌, ◌&&◌, ◌||◌, cond, nat_lt, nat_le, pos, if◌then◌else◌}
use Rattle.std.specs.Char.{is_ascii_digit}
use Rattle.std.specs.List.{prefix_len, take_while}
use Rattle.std.proofs.lemmas.List.Sums.{prefix_len-le-length}
use Rattle.std.proofs.lemmas.List.Folds.{length-prefix_len}
use Rattle.ca_tree.specs.declared.token.Kind.{Kind}
use Rattle.ca_tree.specs.declared.token.Kind.TheVariants.{Number}
use Rattle.ca_tree.specs.declared.token.Sign.{Sign}
use Rattle.ca_lex.specs.Bytes.{is_blank, is_letter, is_name_byte, is_no_line_feed, value_of}
use Rattle.ca_tree.specs.Spellings.{double_sign, single_sign}
use Rattle.ca_lex.specs.Pieces.{Piece, blank_of, comment_of, token_of, too_great, letter_behind, refused, piece_of, begins, word_piece, number_piece, slash_piece, sign_piece, longer_sign, closed_comment, close_len}
use Rattle.ca_lex.proofs.Comments.{close_len-le}

-- takes at least one byte, and at most so many
data Within (most : ℕ) : Piece → Type 0 where
  blank_within : {n : ℕ} → 0 < n → n ≤ most → Within most (blank_of n)
  comment_within : {n : ℕ} → 0 < n → n ≤ most → Within most (comment_of n)
  token_within : {n : ℕ} {kind : Kind} → 0 < n → n ≤ most → Within most (token_of n kind)
  great_within : Within most too_great
  letter_within : {n : ℕ} → 0 < n → n ≤ most → Within most (letter_behind n)
  none_within : Within most refused

choice : (m : ℕ) (b : Bool) (x y : Piece) → (b ≡ true → Within m x) → (b ≡ false → Within m y) → Within m (if b then x else y)
choice m true x y f g = f refl
choice m false x y f g = g refl

-- one that passes counts
some_pass : (p : ℕ → Bool) (b : ℕ) (s : List ℕ) → p b ≡ true → 0 < prefix_len p (b ∷ s)
some_pass p b s e = subst (λ t. 0 < cond t (1 + prefix_len p s) 0) (sym e) (omega arith)

word_within : (b : ℕ) (s : List ℕ) → is_letter b ≡ true → Within (length (b ∷ s)) (word_piece (b ∷ s))
word_within b s e = token_within (some_pass is_name_byte b s (ap (λ t. t || is_ascii_digit b) e)) (prefix_len-le-length is_name_byte (b ∷ s))

one_of_digits : (t u v : Bool) (n most : ℕ) (kind : Kind) → 0 < n → n ≤ most → Within most (if t then refused else if u then too_great else if v then letter_behind n else token_of n kind)
one_of_digits true u v n most kind h l = none_within
one_of_digits false true v n most kind h l = great_within
one_of_digits false false true n most kind h l = letter_within h l
one_of_digits false false false n most kind h l = token_within h l

number_within : (b : ℕ) (s : List ℕ) → is_ascii_digit b ≡ true → Within (length (b ∷ s)) (number_piece (b ∷ s))
number_within b s e =
    let digits = take_while is_ascii_digit (b ∷ s) in
    let l = length-prefix_len is_ascii_digit (b ∷ s) in
    let some = some_pass is_ascii_digit b s e in
    let most = prefix_len-le-length is_ascii_digit (b ∷ s) in
    one_of_digits (nat_lt 1 (length digits) && begins (λ c. c == code "0") digits) (nat_le (2 ^ 63) (value_of digits)) (begins is_letter (drop (prefix_len is_ascii_digit (b ∷ s)) (b ∷ s)))
    (length digits) (length (b ∷ s)) (Number (pos (value_of digits))) (omega (arith, l)) (omega (arith, l))

single_within : (single : Option Sign) (m : ℕ) → 1 ≤ m → Within m (longer_sign None single)
single_within None m h = none_within
single_within (Some sign) m h = token_within (omega arith) (omega arith)

double_within : (double single : Option Sign) (m : ℕ) → 2 ≤ m → Within m (longer_sign double single)
double_within None single m h = single_within single m (omega arith)
double_within (Some sign) single m h = token_within (omega arith) (omega arith)

sign_within : (b : ℕ) (s : List ℕ) → Within (length (b ∷ s)) (sign_piece b s)
sign_within b [] = single_within (single_sign b) _ (omega arith)
sign_within b (c ∷ s) = double_within (double_sign b c) (single_sign b) _ (omega arith)

closed_within : (o : Option ℕ) (m most : ℕ) → m + 2 ≤ most → IfSome o (λ n. n ≤ m) → Within most (closed_comment o)
closed_within None m most h i = none_within
closed_within (Some n) m most h i = comment_within (omega arith) (omega arith)

slash_within : (b : ℕ) (s : List ℕ) → Within (length (b ∷ s)) (slash_piece s)
slash_within b [] = sign_within (code "/") []
slash_within b (c ∷ s) =
    let most = prefix_len-le-length is_no_line_feed (c ∷ s) in
    let signs = choice (length (b ∷ c ∷ s)) (c == code "*") _ _ (λ u. closed_within (close_len s) (length s) _ (omega arith) (close_len-le s)) (λ u. sign_within (code "/") (c ∷ s)) in
    choice (length (b ∷ c ∷ s)) (c == code "/") _ _ (λ t. comment_within {n = prefix_len is_no_line_feed (c ∷ s) + 1} (omega arith) (omega arith)) (λ t. signs)

piece_within : (s : List ℕ) → Within (length s) (piece_of s)
unfolding piece_of
piece_within [] = none_within
piece_within (b ∷ s) =
    choice (length (b ∷ s)) (is_blank b) _ _ (λ e. blank_within {n = 1} (omega arith) (omega arith))
    (λ e. choice (length (b ∷ s)) (is_letter b) _ _ (word_within b s)
    (λ f. choice (length (b ∷ s)) (is_ascii_digit b) _ _ (number_within b s)
    (λ g. choice (length (b ∷ s)) (b == code "/") _ _ (λ h. slash_within b s) (λ h. sign_within b s))))

of_blanks : {most n : ℕ} → Within most (blank_of n) → (0 < n) × (n ≤ most)
of_blanks (blank_within h l) = (h, l)

of_comment : {most n : ℕ} → Within most (comment_of n) → (0 < n) × (n ≤ most)
of_comment (comment_within h l) = (h, l)

of_token : {most n : ℕ} {kind : Kind} → Within most (token_of n kind) → (0 < n) × (n ≤ most)
of_token (token_within h l) = (h, l)

pub blank_size : (s : List ℕ) {n : ℕ} → piece_of s ≡ blank_of n → (0 < n) × (n ≤ length s)
blank_size s e = of_blanks (subst (Within (length s)) e (piece_within s))

pub token_size : (s : List ℕ) {n : ℕ} {kind : Kind} → piece_of s ≡ token_of n kind → (0 < n) × (n ≤ length s)
token_size s e = of_token (subst (Within (length s)) e (piece_within s))

of_digits : {most n : ℕ} → Within most (letter_behind n) → (0 < n) × (n ≤ most)
of_digits (letter_within h l) = (h, l)

pub comment_size : (s : List ℕ) {n : ℕ} → piece_of s ≡ comment_of n → (0 < n) × (n ≤ length s)
comment_size s e = of_comment (subst (Within (length s)) e (piece_within s))

pub digits_size : (s : List ℕ) {n : ℕ} → piece_of s ≡ letter_behind n → (0 < n) × (n ≤ length s)
digits_size s e = of_digits (subst (Within (length s)) e (piece_within s))
