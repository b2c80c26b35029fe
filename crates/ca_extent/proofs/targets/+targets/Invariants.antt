use Rattle.std.proofs.Common.{◌≡◌, ◌++◌, drop}
use Rattle.ca_program.specs.View.{statements_view}
use Rattle.ca_extent.specs.clauses.Targets.{written_by_all}
use Rattle.ca_extent.proofs.targets.+targets.Given as goal

abbrev pub invariant-add_all_targets-statements : goal.invariant-add_all_targets-statements
invariant-add_all_targets-statements l = l.out.items ++ written_by_all (statements_view (drop l.s-index l.stmts)) ≡ l.initial.out.items ++ written_by_all (statements_view l.stmts)
