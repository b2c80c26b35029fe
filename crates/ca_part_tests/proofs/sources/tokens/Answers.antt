use Rattle.std.proofs.Common.{sym, subst, Vec, Global}
use Rattle.ca_tree.specs.declared.token.Token.{Token}
use Rattle.ca_lex.specs.Tokens.{Tokens}
use Rattle.ca_part_tests.proofs.sources.tokens.Goals as goal

pub returns : goal.returns
returns g c =
    let text = c.as_bytes.result.now in
    let told : Tokens text c.expect.result.items = rw c.expect.ensures at c.lex.ensures.tokens in
    (text, subst (λ (v : Vec Token Global). Tokens text v.items) (sym c.lent.ensures) told)
