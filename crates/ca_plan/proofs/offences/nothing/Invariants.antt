use Rattle.std.proofs.Common.{List}
use Rattle.ca_program.specs.declared.program.FieldId.{FieldId}
use Rattle.ca_program.specs.Plain.{PlainProgram}
use Rattle.ca_plan.specs.clauses.Keeping.{AreSeen}
use Rattle.ca_plan.proofs.offences.nothing.Given as goal

abbrev pub invariant-places : goal.invariant-places
invariant-places l = (p : PlainProgram) (written : List FieldId) → AreSeen p written l.seen.items
