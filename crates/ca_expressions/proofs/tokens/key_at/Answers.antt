use Rattle.std.proofs.Common.{sym, ◌∙◌}
use Rattle.ca_expressions.specs.Terminals.{key}
use Rattle.ca_expressions.proofs.Fronts.{front_holds, key_carries}
use Rattle.ca_expressions.proofs.tokens.key_at.Goals as goal

pub returns-clause-some : goal.returns-clause-some
returns-clause-some c =
    let t = c.token-item.result in
    front_holds (key c.args.word) _ t t.at c.in-len1-up.len_at_least c.token-item.is (sym c.is_key.ensures ∙ c.if-not-is_key.false) (key_carries c.args.word t.kind t.at)
