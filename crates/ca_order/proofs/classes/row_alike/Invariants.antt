use Rattle.std.proofs.Common.{◌≡◌, true}
use Rattle.ca_order.specs.clauses.Classes.{row_alike}
use Rattle.ca_order.proofs.classes.row_alike.Given as goal

abbrev pub invariant-loop-j : goal.invariant-loop-j
invariant-loop-j l = row_alike l.one l.other l.i l.j ≡ true
