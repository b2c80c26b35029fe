-- The tokens of a text.
use Rattle.std.specs.Prelude.{◌≡◌, ℕ, ◌+◌, List, [], ◌∷◌, take, drop}
use Rattle.ca_tree.specs.declared.name.Place.{Place}
use Rattle.ca_tree.specs.declared.token.Kind.{Kind}
use Rattle.ca_tree.specs.declared.token.Token.{Token}
use Rattle.ca_lex.specs.Places.{start, advance}
use Rattle.ca_lex.specs.Pieces.{piece_of, blank_of, comment_of, token_of}

-- The tokens of the bytes that begin at a place and at a number: each byte lies in exactly one blank, comment or token,
-- in order. A token has its place, the number of its first byte, and how many bytes it takes.
pub data TokensFrom : Place → ℕ → List ℕ → List Token → Type 0 where
  at_end : {p : Place} {n : ℕ} → TokensFrom p n [] []
  blank : {p : Place} {n k : ℕ} {s : List ℕ} {ts : List Token} → piece_of s ≡ blank_of k
      → TokensFrom (advance p (take k s)) (n + k) (drop k s) ts → TokensFrom p n s ts
  comment : {p : Place} {n k : ℕ} {s : List ℕ} {ts : List Token} → piece_of s ≡ comment_of k
      → TokensFrom (advance p (take k s)) (n + k) (drop k s) ts → TokensFrom p n s ts
  token : {p : Place} {n k : ℕ} {x : Kind} {s : List ℕ} {ts : List Token} → piece_of s ≡ token_of k x
      → TokensFrom (advance p (take k s)) (n + k) (drop k s) ts → TokensFrom p n s (record { kind = x; at = p; start = n; len = k } ∷ ts)

-- The tokens of a text. There is no limit on their number.
abbrev pub Tokens : List ℕ → List Token → Type 0
Tokens text ts = TokensFrom start 0 text ts
