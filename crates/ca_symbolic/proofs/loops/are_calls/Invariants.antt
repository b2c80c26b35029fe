use Rattle.std.proofs.Common.{◌≡◌, drop}
use Rattle.ca_program.specs.View.{statements_view}
use Rattle.ca_symbolic.specs.OtherLoops.{are_calls}
use Rattle.ca_symbolic.proofs.loops.are_calls.Given as goal

abbrev pub invariant-statements : goal.invariant-statements
invariant-statements l = are_calls (statements_view (drop l.s-index l.stmts)) ≡ are_calls (statements_view l.stmts)
