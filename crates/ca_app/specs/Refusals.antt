-- The texts that are refused: where, by which code, and what is replied.
use Rattle.std.specs.Prelude.{ℕ, ◌<◌, ◌≤◌, Bool, true, false, ◌||◌, List, [], ◌∷◌, length, nat_eq, nat_lt, codes, decimal}
use Rattle.ca_tree.specs.declared.name.Place.{Place}
use Rattle.ca_tree.specs.declared.token.Token.{Token}
use Rattle.ca_tree.specs.Plain.{TextTree}
use Rattle.ca_descent.specs.Whole.{FirstWrong, FirstDeep}
use Rattle.ca_lex.specs.Faults.{LexFault, Refusal, bad_byte, wide_number, token_limit}
use Rattle.ca_parse.specs.Grammar.{DerivesFree}
use Rattle.ca_resolve.specs.Judged.{Violation, IsLeast, is_limit}
use Rattle.ca_types.specs.Classes.{Violations}
use Rattle.ca_meaning.specs.Output.{Reply}
use Rattle.ca_app.specs.declared.serving.TheConstants.{REFUSED, PAST_LIMIT}
use Rattle.ca_app.specs.declared.refusals.TheConstants.{NO_TOKEN, TOO_GREAT, TOO_MANY, TOO_LONG, WRONG_TOKEN, TOO_DEEP}
use Rattle.ca_app.specs.Accepted.{most_bytes, HasTokens, HasTree, token_place}
use Rattle.ca_model.specs.Lines.{in_a_row}

-- the code of what is read in place of a token
abbrev pub token_code : Refusal → ℕ
token_code bad_byte = NO_TOKEN.0
token_code wide_number = TOO_GREAT.0
token_code token_limit = TOO_MANY.0

-- What refuses a text, in this order: its length; its first byte or number that is no token, or a token too many; its
-- first wrong or too deeply nested token; the least violation in its tree.
pub data RefusedAt (text : List ℕ) : Place → ℕ → Type 0 where
  too_long : most_bytes < length text → RefusedAt text (record { line = 0; column = 0 }) TOO_LONG.0
  no_token : {at : Place} {fault : Refusal} → length text ≤ most_bytes → LexFault text at fault → RefusedAt text at (token_code fault)
  wrong_token : {tokens : List Token} {k : ℕ} → HasTokens text tokens → FirstWrong DerivesFree tokens k → RefusedAt text (token_place text tokens k) WRONG_TOKEN.0
  deep_token : {tokens : List Token} {k : ℕ} → HasTokens text tokens → FirstDeep DerivesFree tokens k → RefusedAt text (token_place text tokens k) TOO_DEEP.0
  violates : {tree : TextTree} {v : Violation} → HasTree text tree → IsLeast v (Violations tree) → RefusedAt text v.at v.code

-- the codes of limits: of tokens, of bytes, of nesting, and those of names and types
abbrev pub is_limit_code : ℕ → Bool
is_limit_code code = nat_eq code TOO_MANY.0 || nat_eq code TOO_LONG.0 || nat_eq code TOO_DEEP.0 || is_limit code

abbrev pub refusal_status : Bool → ℕ
refusal_status true = PAST_LIMIT
refusal_status false = REFUSED

abbrev pub refusal_word : Bool → List ℕ
refusal_word true = codes "limit "
refusal_word false = codes "error "

-- in front of a number of one digit
abbrev pub leading_zero : Bool → List ℕ
leading_zero true = codes "0"
leading_zero false = []

-- the line that tells the place and the code, which has two digits at least
abbrev pub refusal_text : Place → ℕ → List ℕ
refusal_text at code = in_a_row (
    refusal_word (is_limit_code code) ∷ decimal at.line ∷ codes ":" ∷ decimal at.column
    ∷ codes " E" ∷ leading_zero (nat_lt code 10) ∷ decimal code ∷ codes "\n" ∷ [])

abbrev pub refusal_reply : Place → ℕ → Reply
refusal_reply at code = record { status = refusal_status (is_limit_code code); bytes = refusal_text at code }
