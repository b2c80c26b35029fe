use Rattle.std.proofs.Common.{rules}
use Rattle.std.proofs.lemmas.Int.{wraps}
use Rattle.ca_meaning.proofs.arithmetic.operate_unary.Goals as goal

pub returns-in-Minus-Long : goal.returns-in-Minus-Long
returns-in-Minus-Long c = search (rules, wraps)
