use Rattle.std.proofs.Common.{arith}
use Rattle.std.proofs.lemmas.Bool.{or_right, or_left, or_from}
use Rattle.ca_symbolic.proofs.evaluate.enter_opposite.Goals as goal

pub returns-in_err-opposite-clause-large : goal.returns-in_err-opposite-clause-large
returns-in_err-opposite-clause-large c = grind (arith, or_left, or_right)

pub returns-clause-light : goal.returns-clause-light
returns-clause-light c = grind (arith, or_from)

pub returns-clause-large : goal.returns-clause-large
returns-clause-large c = grind (arith, or_left, or_right)
