use Rattle.ca_descent.proofs.Exact.{sees_got, sees_wrong}
use Rattle.ca_tree.specs.declared.token.Kind.TheVariants.{Number}
use Rattle.std.proofs.Common.{pos}
use Rattle.ca_expressions.specs.Terminals.{number}
use Rattle.ca_expressions.proofs.Terminals.{token, number_sees}
use Rattle.ca_expressions.proofs.tokens.take_number.Goals as goal

pub returns-in-Some-clause-answer : goal.returns-in-Some-clause-answer
returns-in-Some-clause-answer c = (sees_got c.in-Some.ensures.some)

pub returns-in-None-clause-answer : goal.returns-in-None-clause-answer
returns-in-None-clause-answer c = (sees_wrong number {t = token (Number (pos 0))} number_sees c.in-None.ensures.none)
