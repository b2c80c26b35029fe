use Rattle.std.proofs.Common.{rules}
use Rattle.std.specs.Int.{int_wrap}
use Rattle.std.proofs.lemmas.Int.{wraps}
use Rattle.ca_replica.proofs.adding.sum.Goals as goal

pub returns : goal.returns
unfolding int_wrap
returns c = search (rules, wraps)
