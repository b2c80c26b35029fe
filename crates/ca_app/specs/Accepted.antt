-- The texts that are accepted, and their programs.
use Rattle.std.specs.Prelude.{ℕ, ◌≡◌, ◌≤◌, List, length, Option, Some, None, slice_get}
use Rattle.ca_tree.specs.declared.name.Place.{Place}
use Rattle.ca_tree.specs.declared.token.Token.{Token}
use Rattle.ca_tree.specs.Plain.{TextTree}
use Rattle.ca_program.specs.Plain.{PlainProgram}
use Rattle.ca_lex.specs.Places.{advance, start}
use Rattle.ca_lex.specs.Tokens.{Tokens}
use Rattle.ca_lex.specs.declared.TheConstants.{MOST_TOKENS}
use Rattle.ca_parse.specs.Grammar.{DerivesWithin}
use Rattle.ca_resolve.specs.Judged.{fine}
use Rattle.ca_types.specs.Classes.{judge}
use Rattle.ca_app.specs.declared.serving.TheConstants.{MOST_BYTES}

-- the most bytes of a source
abbrev pub most_bytes : ℕ
most_bytes = MOST_BYTES

-- The text isn't too long, and these are its tokens, of which there are not too many.
pub record HasTokens (text : List ℕ) (tokens : List Token) : Type 0 where
  pub short : length text ≤ most_bytes
  pub lexed : Tokens text tokens
  pub few : length tokens ≤ MOST_TOKENS

-- The text has tokens that derive this tree, and none of them is nested too deeply.
pub record HasTree (text : List ℕ) (tree : TextTree) : Type 0 where
  pub tokens : List Token
  pub has_tokens : HasTokens text tokens
  pub derived : DerivesWithin tokens tree

-- The text has a tree without violations, which resolves to this program.
pub record Accepted (text : List ℕ) (program : PlainProgram) : Type 0 where
  pub tree : TextTree
  pub has_tree : HasTree text tree
  pub resolved : judge tree ≡ fine program

-- the place of a token, or the place behind the last byte where there is no such token
abbrev pub place_or_end : List ℕ → Option Token → Place
place_or_end text (Some t) = t.at
place_or_end text None = advance start text

abbrev pub token_place : List ℕ → List Token → ℕ → Place
token_place text tokens k = place_or_end text (slice_get tokens k)
