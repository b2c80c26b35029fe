use Rattle.ca_replica.proofs.InPlace.{MarkedSoFar}
use Rattle.ca_replica.proofs.marks.mark_all.Given as goal

abbrev pub invariant-fields : goal.invariant-fields
invariant-fields l = MarkedSoFar l.fields l.field-index l.marks.items
