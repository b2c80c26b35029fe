use Rattle.std.proofs.Common.{subst}
use Rattle.ca_tree.specs.Operators.{unary_level}
use Rattle.ca_descent.specs.Exact.{Unlimited, Exact}
use Rattle.ca_descent.proofs.Short.{exact_short}
use Rattle.ca_expressions.specs.Grammar.{Chain}
use Rattle.ca_expressions.specs.Readers.{answer, node_view, Closed}
use Rattle.ca_expressions.proofs.expressions.parse_chain.Goals as goal

pub returns-clause-answer : goal.returns-clause-answer
returns-clause-answer c =
    let o = answer node_view c.parse_inner_chain.result in
    let h = c.first_tokens-head.ensures in
    rw c.limited.ensures.answer (exact_short o (subst (λ z. Exact (Unlimited Chain) (Closed unary_level Chain) z o) h c.parse_inner_chain.ensures.answer))

pub returns-clause-shorter : goal.returns-clause-shorter
returns-clause-shorter c = c.limited.ensures.shorter c.parse_inner_chain.ensures.shorter
