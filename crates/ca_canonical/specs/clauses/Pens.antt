-- What has been written of a text.
use Rattle.std.specs.Prelude.{◌≡◌, ℕ, List, [], ◌∷◌, ◌++◌, Bool, true, false, Option, Some, None}
use Rattle.ca_tree.specs.declared.token.Kind.{Kind}
use Rattle.ca_canonical.specs.Marks.{Piece, tokens}
use Rattle.ca_canonical.specs.Texts.{semicolon_first, behind_brace, pieces_from}

-- The text of some pieces, within how many round brackets it ends, and whether the byte behind its last token, a `}`,
-- waits for the next one. Where memory ran out nothing is said of it.
pub record Written : Type 0 where
  pub text : List ℕ
  pub depth : ℕ
  pub brace : Bool
  pub failed : Bool

-- the byte behind a waiting `}`, where a `;` follows or not
abbrev pub waiting : Bool → Bool → List ℕ
waiting true semicolon = behind_brace semicolon ∷ []
waiting false semicolon = []

-- the whole text, where these pieces are still to be written
abbrev pub whole : Written → List Piece → List ℕ
whole p ps = p.text ++ waiting p.brace (semicolon_first ps) ++ pieces_from p.depth ps

-- the tokens have been written
pub record Writes (old now : Written) (ks : List Kind) : Type 0 where
  pub lasted : now.failed ≡ false → old.failed ≡ false
  pub says : now.failed ≡ false → (more : List Piece) → whole now more ≡ whole old (tokens ks ++ more)

-- the pieces have been written
pub record WritesPieces (old now : Written) (ps : List Piece) : Type 0 where
  pub lasted : now.failed ≡ false → old.failed ≡ false
  pub says : now.failed ≡ false → (more : List Piece) → whole now more ≡ whole old (ps ++ more)

-- the byte behind a token, which may wait
abbrev pub gap_text : Option ℕ → List ℕ
gap_text (Some b) = b ∷ []
gap_text None = []

abbrev pub waits : Option ℕ → Bool
waits (Some b) = false
waits None = true

-- a piece of this text has been written, a `;` or not, and the byte behind it
abbrev pub put : Bool → List ℕ → Option ℕ → Written → Written
put semicolon text gap p = record { text = p.text ++ waiting p.brace semicolon ++ text ++ gap_text gap; depth = p.depth; brace = waits gap; failed = p.failed }

-- such a piece has been written
pub record Puts (semicolon : Bool) (text : List ℕ) (gap : Option ℕ) (old now : Written) : Type 0 where
  pub lasted : now.failed ≡ false → old.failed ≡ false
  pub is : now.failed ≡ false → now ≡ put semicolon text gap old
