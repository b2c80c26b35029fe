-- The program of a text is well typed.
use Rattle.std.proofs.Common.{◌≡◌, ℕ, List}
use Rattle.ca_tree.specs.declared.token.Token.{Token}
use Rattle.ca_tree.specs.Plain.{TextTree}
use Rattle.ca_program.specs.Plain.{PlainProgram}
use Rattle.ca_lex.specs.Tokens.{Tokens}
use Rattle.ca_parse.specs.Grammar.{DerivesFree}
use Rattle.ca_meaning.specs.ProgramTyped.{ProgramTyped}
use Rattle.ca_resolve.specs.Judged.{fine}
use Rattle.ca_types.specs.Classes.{judge}
use Rattle.ca_typing.proofs.LiteralTokens.{tokens_fit}
use Rattle.ca_typing.proofs.LiteralTrees.{tree_fits}
use Rattle.ca_typing.proofs.Typing.{resolved_is_typed}

pub text_is_typed : (text : List ℕ) (tokens : List Token) (free : ℕ) (tree : TextTree) (p : PlainProgram) → Tokens text tokens → DerivesFree free tokens tree → judge tree ≡ fine p → ProgramTyped p
text_is_typed text tokens free tree p t d judged = resolved_is_typed tree p (tree_fits d (tokens_fit t)) judged
