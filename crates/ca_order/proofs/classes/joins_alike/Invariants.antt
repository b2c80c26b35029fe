use Rattle.std.proofs.Common.{◌≡◌, true}
use Rattle.ca_order.specs.clauses.Classes.{joins_alike}
use Rattle.ca_order.proofs.classes.joins_alike.Given as goal

abbrev pub invariant-loop-i : goal.invariant-loop-i
invariant-loop-i l = joins_alike l.one l.other l.count l.i ≡ true
