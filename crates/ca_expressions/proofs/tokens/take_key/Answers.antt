use Rattle.ca_descent.proofs.Exact.{sees_got, sees_wrong}
use Rattle.ca_tree.specs.declared.token.Kind.TheVariants.{Key as KeyKind}
use Rattle.ca_expressions.specs.Terminals.{key}
use Rattle.ca_expressions.proofs.Terminals.{token, key_sees}
use Rattle.ca_expressions.proofs.tokens.take_key.Goals as goal

pub returns-in-Some-clause-answer : goal.returns-in-Some-clause-answer
returns-in-Some-clause-answer c = (sees_got c.in-Some.ensures.some)

pub returns-in-None-clause-answer : goal.returns-in-None-clause-answer
returns-in-None-clause-answer c = (sees_wrong (key c.args.word) {t = token (KeyKind c.args.word)} (key_sees c.args.word) c.in-None.ensures.none)
