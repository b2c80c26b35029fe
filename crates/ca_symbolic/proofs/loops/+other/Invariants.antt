use Rattle.std.proofs.Common.{◌≡◌, drop}
use Rattle.ca_program.specs.View.{statements_view}
use Rattle.ca_symbolic.specs.OtherLoops.{other_loop_in}
use Rattle.ca_symbolic.proofs.loops.+other.Given as goal

abbrev pub invariant-other_loop_in-statements : goal.invariant-other_loop_in-statements
invariant-other_loop_in-statements l = other_loop_in l.params l.written (statements_view (drop l.s-index l.stmts)) ≡ other_loop_in l.params l.written (statements_view l.stmts)
