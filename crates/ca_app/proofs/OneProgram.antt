-- A text has one list of tokens, and one program where it has one tree.
use Rattle.std.proofs.Common.{◌≡◌, ℕ, List, subst, ap, sym, ◌∙◌}
use Rattle.ca_tree.specs.declared.token.Token.{Token}
use Rattle.ca_tree.specs.Plain.{TextTree}
use Rattle.ca_program.specs.Plain.{PlainProgram}
use Rattle.ca_lex.proofs.Derivations.{one_list}
use Rattle.ca_parse.specs.Grammar.{DerivesWithin}
use Rattle.ca_resolve.specs.Judged.{fine}
use Rattle.ca_types.specs.Classes.{judge}
use Rattle.ca_app.specs.Accepted.{HasTokens, HasTree, Accepted}
use Rattle.ca_app.specs.clauses.Reading.{HasOneTree}

pub one_tokens : {text : List ℕ} {a b : List Token} → HasTokens text a → HasTokens text b → a ≡ b
one_tokens {b = b} s t = one_list s.lexed b t.lexed

-- the tree, derived by the other tokens
pub derived_by : {text : List ℕ} {tokens : List Token} {tree : TextTree} → HasTokens text tokens → HasTree text tree → DerivesWithin tokens tree
derived_by {tree = tree} s t = let P : List Token → Type 0 = λ ts. DerivesWithin ts tree in subst P (one_tokens t.has_tokens s) t.derived

-- where this is the only tree, its program is the only one
pub one_program : {text : List ℕ} {tree : TextTree} {p : PlainProgram} → HasOneTree text tree → judge tree ≡ fine p → (q : PlainProgram) → Accepted text q → q ≡ p
one_program {tree = tree} {p = p} t is q s =
    let same : judge s.tree ≡ judge tree = ap judge (t.only s.tree s.has_tree) in
    let both : fine q ≡ fine p = sym s.resolved ∙ (same ∙ is) in
    cc
