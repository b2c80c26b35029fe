use Rattle.std.proofs.Common.{sym, ◌∙◌, ap, is_some}
use Rattle.ca_expressions.specs.Terminals.{sign}
use Rattle.ca_expressions.proofs.Fronts.{front_is, sign_is}
use Rattle.ca_expressions.proofs.tokens.is_sign.Goals as goal

pub returns-in-Sign : goal.returns-in-Sign
returns-in-Sign c =
    let t = c.token-item.result in
    c.eq.ensures
    ∙ sym (ap is_some (front_is (sign c.args.wanted) _ t c.in-len1-up.len_at_least c.token-item.is) ∙ sign_is c.args.wanted t c.in-Sign.found c.in-Sign.is)
