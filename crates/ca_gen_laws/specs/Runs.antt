-- Texts whose programs run to their ends.
use Rattle.std.specs.Prelude.{ℕ, ◌≡◌, ◌≤◌, List, [], length}
use Rattle.ca_tree.specs.declared.token.Token.{Token}
use Rattle.ca_tree.specs.Plain.{TextTree}
use Rattle.ca_program.specs.Plain.{PlainProgram}
use Rattle.ca_lex.specs.Tokens.{Tokens}
use Rattle.ca_lex.specs.declared.TheConstants.{MOST_TOKENS}
use Rattle.ca_parse.specs.Grammar.{DerivesWithin}
use Rattle.ca_resolve.specs.Judged.{fine}
use Rattle.ca_types.specs.Classes.{judge}
use Rattle.ca_model.specs.declared.value.Object.{Object}
use Rattle.ca_meaning.specs.Serial.{done, serial}

-- The text has at most so many bytes, and tokens of which there are not too many. They derive a tree within the limits,
-- in which there are no violations, and the serial run of its program prints nothing and is done within the budget.
pub record RunsWithin (most_bytes budget : ℕ) (text : List ℕ) : Type 0 where
  pub short : length text ≤ most_bytes
  pub tokens : List Token
  pub lexed : Tokens text tokens
  pub few : length tokens ≤ MOST_TOKENS
  pub tree : TextTree
  pub derived : DerivesWithin tokens tree
  pub program : PlainProgram
  pub resolved : judge tree ≡ fine program
  pub heap : List Object
  pub steps : ℕ
  pub done : serial program budget ≡ done [] heap steps
