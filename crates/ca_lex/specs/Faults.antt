-- The first refused place of a text.
use Rattle.std.specs.Prelude.{◌≡◌, ℕ, ◌+◌, ◌<◌, ◌≤◌, List, ◌∷◌, take, drop}
use Rattle.ca_tree.specs.declared.name.Place.{Place}
use Rattle.ca_tree.specs.declared.token.Kind.{Kind}
use Rattle.ca_lex.specs.declared.TheConstants.{MOST_TOKENS}
use Rattle.ca_lex.specs.Places.{start, advance}
use Rattle.ca_lex.specs.Pieces.{piece_of, blank_of, comment_of, token_of, too_great, letter_behind, refused}

-- what is refused: a byte that may not stand there, a number above 9223372036854775807, or one token too many
pub data Refusal : Type 0 where
  bad_byte : Refusal
  wide_number : Refusal
  token_limit : Refusal

-- What is refused first in the bytes that begin at the place p, where n tokens stand before them, and its place. The
-- steps to it are those of the tokens. Digits with a letter behind them are a token as far as the limit goes, and below
-- it the letter is refused.
pub data FaultFrom : Place → ℕ → List ℕ → Place → Refusal → Type 0 where
  blank : {p q : Place} {n k : ℕ} {s : List ℕ} {f : Refusal} → piece_of s ≡ blank_of k
      → FaultFrom (advance p (take k s)) n (drop k s) q f → FaultFrom p n s q f
  comment : {p q : Place} {n k : ℕ} {s : List ℕ} {f : Refusal} → piece_of s ≡ comment_of k
      → FaultFrom (advance p (take k s)) n (drop k s) q f → FaultFrom p n s q f
  token : {p q : Place} {n k : ℕ} {x : Kind} {s : List ℕ} {f : Refusal} → piece_of s ≡ token_of k x → n < MOST_TOKENS
      → FaultFrom (advance p (take k s)) (n + 1) (drop k s) q f → FaultFrom p n s q f
  too_many : {p : Place} {n k : ℕ} {x : Kind} {s : List ℕ} → piece_of s ≡ token_of k x → MOST_TOKENS ≤ n → FaultFrom p n s p token_limit
  too_many_digits : {p : Place} {n k : ℕ} {s : List ℕ} → piece_of s ≡ letter_behind k → MOST_TOKENS ≤ n → FaultFrom p n s p token_limit
  letter : {p : Place} {n k : ℕ} {s : List ℕ} → piece_of s ≡ letter_behind k → n < MOST_TOKENS → FaultFrom p n s (advance p (take k s)) bad_byte
  wide : {p : Place} {n : ℕ} {s : List ℕ} → piece_of s ≡ too_great → FaultFrom p n s p wide_number
  bad : {p : Place} {n b : ℕ} {s : List ℕ} → piece_of (b ∷ s) ≡ refused → FaultFrom p n (b ∷ s) p bad_byte

-- What is refused first in a text, and its place. It may have at most MOST_TOKENS tokens.
abbrev pub LexFault : List ℕ → Place → Refusal → Type 0
LexFault text q f = FaultFrom start 0 text q f
