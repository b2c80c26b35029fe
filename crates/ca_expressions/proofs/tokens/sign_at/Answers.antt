use Rattle.std.proofs.Common.{sym, ◌∙◌}
use Rattle.ca_expressions.specs.Terminals.{sign}
use Rattle.ca_expressions.proofs.Fronts.{front_holds, sign_carries}
use Rattle.ca_expressions.proofs.tokens.sign_at.Goals as goal

pub returns-clause-some : goal.returns-clause-some
returns-clause-some c =
    let t = c.token-item.result in
    front_holds (sign c.args.wanted) _ t t.at c.in-len1-up.len_at_least c.token-item.is (sym c.is_sign.ensures ∙ c.if-not-is_sign.false) (sign_carries c.args.wanted t.kind t.at)
