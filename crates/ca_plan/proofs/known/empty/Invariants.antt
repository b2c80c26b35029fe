use Rattle.ca_program.specs.Plain.{PlainProgram}
use Rattle.ca_plan.specs.clauses.Keeping.{AllFit}
use Rattle.ca_plan.proofs.known.empty.Given as goal

abbrev pub invariant-places : goal.invariant-places
invariant-places l = (p : PlainProgram) → AllFit p l.slots.items
