use Rattle.ca_program.specs.View.{program_view}
use Rattle.ca_plan.specs.clauses.Keeping.{AreSeen}
use Rattle.ca_plan.proofs.offences.Offences.of.Given as goal

abbrev pub invariant-ops : goal.invariant-ops
invariant-ops l = AreSeen (program_view l.program) l.extent.written l.seen.items
