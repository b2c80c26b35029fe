use Rattle.std.proofs.Common.{List, drop}
use Rattle.ca_program.specs.Plain as program
use Rattle.ca_tree.specs.View.{statements_view}
use Rattle.ca_resolve.specs.Judged.{Judged, Answers, each}
use Rattle.ca_types.specs.clauses.View.{env_view, all_view}
use Rattle.ca_types.proofs.Walks.{Left}
use Rattle.ca_types.proofs.statements.+statement.Given as goal

abbrev pub invariant-check_statements-loop-stmt : goal.invariant-check_statements-loop-stmt
invariant-check_statements-loop-stmt l =
    (front : List (Judged program.Statement)) × Answers all_view l.answers (each front)
    × Left (env_view l.fn.walk) (statements_view l.stmts) (env_view l.walk) front (statements_view (drop l.stmt-index l.stmts))
