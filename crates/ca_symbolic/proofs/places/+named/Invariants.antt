use Rattle.std.proofs.Common.{◌≡◌, drop}
use Rattle.ca_program.specs.View.{statements_view}
use Rattle.ca_symbolic.specs.clauses.Places.{marked, locals_named_all}
use Rattle.ca_symbolic.proofs.places.+named.Given as goal

abbrev pub invariant-mark_all_named-statements : goal.invariant-mark_all_named-statements
invariant-mark_all_named-statements l = marked l.marks.items (locals_named_all (statements_view (drop l.s-index l.stmts))) ≡ marked l.initial.marks.items (locals_named_all (statements_view l.stmts))
