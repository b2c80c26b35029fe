use Rattle.ca_tree.specs.declared.token.Sign.TheVariants.{Minus, Not}
use Rattle.ca_expressions.specs.Terminals.{unary_of}
use Rattle.ca_expressions.proofs.Terminals.{sees_also, sign_gives}
use Rattle.ca_expressions.proofs.Fronts.{no_unary}
use Rattle.ca_expressions.proofs.tokens.unary_at.Goals as goal

pub returns-in-Some-clause-some : goal.returns-in-Some-clause-some
returns-in-Some-clause-some c = let d = c.in-Some.ensures.some in sees_also d (sign_gives unary_of Minus d)

pub returns-in-Some-sign_at-clause-some : goal.returns-in-Some-sign_at-clause-some
returns-in-Some-sign_at-clause-some c = let d = c.in-Some-sign_at.ensures.some in sees_also d (sign_gives unary_of Not d)

pub returns-clause-none : goal.returns-clause-none
returns-clause-none c = no_unary c.args.tokens.now c.in_default.ensures.none c.in_default-sign_at.ensures.none
