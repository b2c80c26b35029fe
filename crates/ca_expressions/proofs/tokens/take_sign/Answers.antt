use Rattle.ca_descent.proofs.Exact.{sees_got, sees_wrong}
use Rattle.ca_tree.specs.declared.token.Kind.TheVariants.{Sign as SignKind}
use Rattle.ca_expressions.specs.Terminals.{sign}
use Rattle.ca_expressions.proofs.Terminals.{token, sign_sees}
use Rattle.ca_expressions.proofs.tokens.take_sign.Goals as goal

pub returns-in-Some-clause-answer : goal.returns-in-Some-clause-answer
returns-in-Some-clause-answer c = (sees_got c.in-Some.ensures.some)

pub returns-in-None-clause-answer : goal.returns-in-None-clause-answer
returns-in-None-clause-answer c = (sees_wrong (sign c.args.wanted) {t = token (SignKind c.args.wanted)} (sign_sees c.args.wanted) c.in-None.ensures.none)
