use Rattle.ca_expressions.specs.Terminals.{word_operator}
use Rattle.ca_expressions.proofs.Fronts.{front_sees, word_is}
use Rattle.ca_expressions.proofs.tokens.word_at.Goals as goal

pub returns-clause-some : goal.returns-clause-some
returns-clause-some c =
    let t = c.token-item.result in
    front_sees word_operator _ t (c.in-Some.op, t.at) c.in-len1-up.len_at_least c.token-item.is (word_is t.kind c.in-Key.word c.in-Some.op t.at c.in-Key.is c.in-Some.ensures)
