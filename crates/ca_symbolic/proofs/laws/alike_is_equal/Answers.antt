use Rattle.ca_symbolic.proofs.Alike.{alike_is_equal}
use Rattle.ca_symbolic.proofs.laws.alike_is_equal.Goals as goal

pub returns : goal.returns
returns c = alike_is_equal
