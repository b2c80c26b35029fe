use Rattle.std.proofs.Common.{◌≡◌, Some, ◌∙◌, arith}
use Rattle.ca_tree.specs.Operators.{level}
use Rattle.ca_expressions.specs.Terminals.{operator}
use Rattle.ca_expressions.proofs.Fronts.{front_sees, operator_is, of_the_level}
use Rattle.ca_expressions.proofs.tokens.operator_at.Goals as goal

pub returns-clause-some : goal.returns-clause-some
returns-clause-some c =
    let t = c.token-item.result in
    let e : level c.in-Some.op ≡ c.args.level = omega (arith, c.if-found-level.false, c.level-found.ensures.level) in
    front_sees (operator c.args.level) _ t (c.in-Some.op, t.at) c.in-len1-up.len_at_least c.token-item.is
    (operator_is c.args.level t.kind c.in-Sign.sign (Some c.in-Some.op) t.at c.in-Sign.is c.in-Some.ensures ∙ of_the_level c.args.level c.in-Some.op t.at e)
