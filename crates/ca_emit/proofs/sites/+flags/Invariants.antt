use Rattle.std.proofs.Common.{◌≡◌, ◌++◌, drop}
use Rattle.ca_program.specs.View.{statements_view}
use Rattle.ca_emit.specs.Annotations.{run_parallel}
use Rattle.ca_emit.proofs.sites.+flags.Given as goal

abbrev pub invariant-add_all_flags-statements : goal.invariant-add_all_flags-statements
invariant-add_all_flags-statements l = l.out.items ++ run_parallel l.marks l.inside (statements_view (drop l.s-index l.stmts)) ≡ l.initial.out.items ++ run_parallel l.marks l.inside (statements_view l.stmts)
