use Rattle.std.proofs.Common.{subst}
use Rattle.ca_descent.specs.Exact.{Unlimited, Exact}
use Rattle.ca_descent.proofs.Short.{exact_short}
use Rattle.ca_expressions.specs.Grammar.{Expr}
use Rattle.ca_expressions.specs.Readers.{answer, node_view, Closed}
use Rattle.ca_expressions.proofs.expressions.parse_expression.Goals as goal

pub returns-clause-answer : goal.returns-clause-answer
returns-clause-answer c =
    let o = answer node_view c.parse_level.result in
    let h = c.first_tokens-head.ensures in
    rw c.limited.ensures.answer (exact_short o (subst (λ z. Exact (Unlimited Expr) (Closed 0 Expr) z o) h c.parse_level.ensures.answer))

pub returns-clause-shorter : goal.returns-clause-shorter
returns-clause-shorter c = c.limited.ensures.shorter c.parse_level.ensures.shorter
