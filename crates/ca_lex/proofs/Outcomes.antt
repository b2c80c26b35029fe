-- Where the refusal that is answered stands.
use Rattle.std.proofs.Common.{◌≡◌}
use Rattle.std.specs.Prelude.{Result, Err}
use Rattle.ca_tree.specs.declared.name.Place.{Place}
use Rattle.ca_lex.specs.declared.LexError.{LexError}
use Rattle.ca_lex.specs.declared.LexError.TheVariants.{BadByte, WideNumber, Limit}

pub byte_place : {T : Type 0} {p q : Place} → ◌≡◌ {A = Result T LexError} (Err (BadByte p)) (Err (BadByte q)) → p ≡ q
byte_place e = cc

pub number_place : {T : Type 0} {p q : Place} → ◌≡◌ {A = Result T LexError} (Err (WideNumber p)) (Err (WideNumber q)) → p ≡ q
number_place e = cc

pub limit_place : {T : Type 0} {p q : Place} → ◌≡◌ {A = Result T LexError} (Err (Limit p)) (Err (Limit q)) → p ≡ q
limit_place e = cc
