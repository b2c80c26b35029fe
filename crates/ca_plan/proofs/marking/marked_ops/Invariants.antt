use Rattle.ca_program.specs.View.{program_view}
use Rattle.ca_plan.specs.Told.{shared}
use Rattle.ca_plan.proofs.Chosen.{MarkedTo}
use Rattle.ca_plan.proofs.marking.marked_ops.Given as goal

abbrev pub invariant-loop-n : goal.invariant-loop-n
invariant-loop-n l = MarkedTo (program_view l.program) (shared l.ops) l.n l.marked.items
