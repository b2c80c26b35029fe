use Rattle.std.proofs.Common.{rules}
use Rattle.std.proofs.lemmas.Int.{wraps}
use Rattle.ca_symbolic.proofs.evaluate.negated.Goals as goal

pub returns : goal.returns
returns c = search (rules, wraps)
