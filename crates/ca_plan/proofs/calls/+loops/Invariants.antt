use Rattle.std.proofs.Common.{◌≡◌, ◌++◌, drop}
use Rattle.ca_program.specs.View.{statements_view}
use Rattle.ca_parallel.specs.Bodies.{fors_in_all}
use Rattle.ca_plan.specs.clauses.Loops.{seen}
use Rattle.ca_plan.specs.Plans.{call_loops_of}
use Rattle.ca_plan.proofs.calls.+loops.Given as goal

abbrev pub invariant-add_all_loops-statements : goal.invariant-add_all_loops-statements
invariant-add_all_loops-statements l = seen l.out.items ++ call_loops_of (fors_in_all (statements_view (drop l.s-index l.stmts))) ≡ seen l.initial.out.items ++ call_loops_of (fors_in_all (statements_view l.stmts))
