use Rattle.std.proofs.Common.{◌≡◌, drop}
use Rattle.ca_order.specs.clauses.Classes.{pairs_alike}
use Rattle.ca_order.proofs.classes.pairs_alike.Given as goal

abbrev pub invariant-loop-pair : goal.invariant-loop-pair
invariant-loop-pair l = pairs_alike l.one l.other l.pairs ≡ pairs_alike l.one l.other (drop l.pair-index l.pairs)
