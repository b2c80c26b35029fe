use Rattle.std.proofs.Common.{◌≡◌, ◌++◌, drop}
use Rattle.ca_program.specs.View.{statements_view}
use Rattle.ca_parallel.specs.Bodies.{calls_of_all}
use Rattle.ca_plan.proofs.calls.+calls.Given as goal

abbrev pub invariant-add_all_calls-statements : goal.invariant-add_all_calls-statements
invariant-add_all_calls-statements l = l.out.items ++ calls_of_all (statements_view (drop l.s-index l.stmts)) ≡ l.initial.out.items ++ calls_of_all (statements_view l.stmts)
