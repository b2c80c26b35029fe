use Rattle.std.proofs.Common.{◌≡◌, ◌++◌, drop}
use Rattle.ca_program.specs.View.{statements_view, program_view}
use Rattle.ca_symbolic.specs.Execution.{after_all}
use Rattle.ca_symbolic.specs.Demands.{demanded_all}
use Rattle.ca_symbolic.specs.clauses.Refusals.{refused_by_all}
use Rattle.ca_symbolic.proofs.walk.+run.Given as goal

abbrev pub invariant-run_all-statements : goal.invariant-run_all-statements
invariant-run_all-statements l =
    (after_all (program_view l.program) l.state (statements_view (drop l.s-index l.stmts)) ≡ after_all (program_view l.program) l.initial.state (statements_view l.stmts)) ×
    (l.out.guard ≡ l.initial.out.guard) ×
    (l.out.list ++ demanded_all (program_view l.program) l.state l.initial.out.guard (statements_view (drop l.s-index l.stmts)) ≡
    l.initial.out.list ++ demanded_all (program_view l.program) l.initial.state l.initial.out.guard (statements_view l.stmts)) ×
    (refused_by_all (program_view l.program) l.state l.initial.out.guard (statements_view (drop l.s-index l.stmts)) ≡
    refused_by_all (program_view l.program) l.initial.state l.initial.out.guard (statements_view l.stmts))
